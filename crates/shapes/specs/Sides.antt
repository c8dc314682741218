-- The words of the sides. Assumes nothing.
--     side_word s   the name of the side s
use Rattle.std.specs.Prelude.{ℕ, List, codes}
use Rattle.shapes.specs.declared.sides.Side.{Side}
use Rattle.shapes.specs.declared.sides.Side.TheVariants.{Left, Right}

abbrev pub side_word : Side → List ℕ
side_word Left = codes "left"
side_word Right = codes "right"
