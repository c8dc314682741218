-- The names that a field may have. Assumes nothing.
--     a_side      left or right
--     a_clear     none, left, right or both
--     an_item     text, box or shape
use Rattle.std.specs.Prelude.{None, codes}
use Rattle.lexer.specs.declared.faults.Cause.TheVariants.{Keyword}
use Rattle.lexer.specs.Forms.{FieldKind, field_kind, spelled}
use Rattle.shapes.specs.declared.sides.Side.{Side}
use Rattle.shapes.specs.declared.sides.Side.TheVariants as S
use Rattle.shapes.specs.declared.sides.Clear.{Clear}
use Rattle.shapes.specs.declared.sides.Clear.TheVariants as C
use Rattle.lines.specs.declared.names.ItemWord.{ItemWord}
use Rattle.lines.specs.declared.names.ItemWord.TheVariants.{Text, Plain, Shaped}

abbrev pub a_side : FieldKind Side
a_side = field_kind (λ bs. spelled (codes "left") S.Left (spelled (codes "right") S.Right None bs) bs) Keyword

abbrev pub a_clear : FieldKind Clear
a_clear = field_kind (λ bs. spelled (codes "none") C.None (spelled (codes "left") C.Left (spelled (codes "right") C.Right (spelled (codes "both") C.Both None bs) bs) bs) bs) Keyword

abbrev pub an_item : FieldKind ItemWord
an_item = field_kind (λ bs. spelled (codes "text") Text (spelled (codes "box") Plain (spelled (codes "shape") Shaped None bs) bs) bs) Keyword
