-- Advances worked by hand, by the house table. Assumes nothing.
--     Example          at this size, this byte has this advance
--     examples         one for each part of the rule
--     ExamplesStand    the definitions give these advances
use Rattle.std.specs.Prelude.{◌≡◌, ℕ, List, [], ◌∷◌, map}
use Rattle.metrics.specs.House.{house_widths}
use Rattle.metrics.specs.Width.{table_advance}

pub record Example : Type 0 where
  pub size : ℕ
  pub byte : ℕ
  pub advance : ℕ

abbrev example : ℕ → ℕ → ℕ → Example
example q b n = record { size = q; byte = b; advance = n }

abbrev pub examples : List Example
examples =
    example 10 105 3  -- i: 2.5 units, an exact half, upward
    ∷ example 10 110 5  -- n: 5 units
    ∷ example 10 109 8  -- m: 7.5 units, upward
    ∷ example 9 110 5  -- n: 4.5 units, upward
    ∷ example 9 105 2  -- i: 2.25 units, down
    ∷ example 9 109 7  -- m: 6.75 units, up
    ∷ example 1 105 1  -- i: a quarter of a unit, which is 0 and counts as 1
    ∷ example 10 32 3  -- the space
    ∷ example 10 9 3  -- the tab, which isn't printable: as the space
    ∷ example 10 200 3  -- so is a byte past the tilde
    ∷ []

abbrev pub ExamplesStand : Type 0
ExamplesStand = map (λ e. table_advance house_widths e.size e.byte) examples ≡ map (λ e. e.advance) examples
