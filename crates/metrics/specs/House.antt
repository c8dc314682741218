-- The house table. Assumes nothing.
--     narrow, wide    the bytes of 250 and of 750 thousandths
--     among b bs      b is one of bs
--     house_width b   the width of byte b
--     house_widths    the widths of the 95 printable bytes, in their order
--     HouseByRule     the house table gives each printable byte its width, and any other the space's
use Rattle.std.specs.Prelude.{◌≡◌, ℕ, Bool, false, cond, ◌||◌, List, [], ◌∷◌, map, codes, ◌==◌}
use Rattle.std.specs.List.{range_with_len}
use Rattle.metrics.specs.Advance.{Printable}
use Rattle.metrics.specs.Width.{width_of}

abbrev pub narrow : List ℕ
narrow = codes " .il"

abbrev pub wide : List ℕ
wide = codes "MWmw"

abbrev pub among : ℕ → List ℕ → Bool
among b [] = false
among b (x ∷ xs) = b == x || among b xs

abbrev pub house_width : ℕ → ℕ
house_width b = cond (among b narrow) 250 (cond (among b wide) 750 500)

unfoldable pub house_widths : List ℕ
house_widths = map house_width (range_with_len 32 95)

pub record HouseByRule : Type 0 where
  pub own : (b : ℕ) → Printable b → width_of house_widths b ≡ house_width b
  pub other : (b : ℕ) → (Printable b → ⊥) → width_of house_widths b ≡ house_width 32
