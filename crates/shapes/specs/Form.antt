-- A shape as the layout sees it: a width, a height, and how far it reaches in on each of its rows. Assumes nothing.
--     Form         a shape's width, height and extents
--     Real f       f is a shape: its sizes and extents are in their ranges
--     clears c s   clearing c takes in the panels of side s
use Rattle.std.specs.Prelude.{◌≡◌, ℕ, ◌<◌, ◌≤◌, Bool, true, false}
use Rattle.shapes.specs.declared.sides.Side.{Side}
use Rattle.shapes.specs.declared.sides.Side.TheVariants.{Left, Right}
use Rattle.shapes.specs.declared.sides.Clear.{Clear}
use Rattle.shapes.specs.declared.sides.Clear.TheVariants as C

pub record Form : Type 0 where
  pub wide : ℕ
  pub tall : ℕ
  -- how far it reaches in on its row k, from the side that it stands on
  pub extent : ℕ → ℕ

-- the greatest width and height
abbrev pub most_units : ℕ
most_units = 4096

pub record Real (f : Form) : Type 0 where
  pub wide_some : 0 < f.wide
  pub wide_most : f.wide ≤ most_units
  pub tall_some : 0 < f.tall
  pub tall_most : f.tall ≤ most_units
  pub within : (k : ℕ) → f.extent k ≤ f.wide
  pub past : (k : ℕ) → f.tall ≤ k → f.extent k ≡ 0

abbrev pub opposite : Side → Side
opposite Left = Right
opposite Right = Left

abbrev pub clears : Clear → Side → Bool
clears C.None s = false
clears C.Left Left = true
clears C.Left Right = false
clears C.Right Left = false
clears C.Right Right = true
clears C.Both s = true
