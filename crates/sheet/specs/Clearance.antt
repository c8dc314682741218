-- The bottoms of the panels of each side, as numbers. Assumes nothing.
--     lowest c b         the greatest of b's bottoms on the sides that c clears, 0 where it clears none
--     with_bottom s n b  b with one panel more, of side s and bottom n
--     bottoms_of qs      the bottoms of the panels qs
use Rattle.std.specs.Prelude.{ℕ, max, List}
use Rattle.shapes.specs.declared.sides.Side.{Side}
use Rattle.shapes.specs.declared.sides.Side.TheVariants.{Left, Right}
use Rattle.shapes.specs.declared.sides.Clear.{Clear}
use Rattle.shapes.specs.declared.sides.Clear.TheVariants as C
use Rattle.places.specs.Panels.{Placed}
use Rattle.places.specs.Tried.{bottoms}
use Rattle.sheet.specs.declared.clearance.Bottoms.{Bottoms}

abbrev pub lowest : Clear → Bottoms → ℕ
lowest C.None b = 0
lowest C.Left b = b.left
lowest C.Right b = b.right
lowest C.Both b = max b.left b.right

abbrev pub with_bottom : Side → ℕ → Bottoms → Bottoms
with_bottom Left n b = record { left = max n b.left; right = b.right }
with_bottom Right n b = record { left = b.left; right = max n b.right }

abbrev pub bottoms_of : List Placed → Bottoms
bottoms_of qs = record { left = bottoms C.Left qs; right = bottoms C.Right qs }
