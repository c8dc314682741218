-- The names of the two families of metrics. Assumes nothing.
--     a_family    cell or table
use Rattle.std.specs.Prelude.{None, codes}
use Rattle.lexer.specs.declared.faults.Cause.TheVariants.{Keyword}
use Rattle.lexer.specs.Forms.{FieldKind, field_kind, spelled}
use Rattle.scales.specs.declared.Family.{Family}
use Rattle.scales.specs.declared.Family.TheVariants.{Cell, Table}

abbrev pub a_family : FieldKind Family
a_family = field_kind (λ bs. spelled (codes "cell") Cell (spelled (codes "table") Table None bs) bs) Keyword
