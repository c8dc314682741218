-- Thousandths of a unit to whole units. Assumes nothing.
--     rounded x             the units that x thousandths come to
--     gap x n               how many thousandths lie between x thousandths and n units
--     Nearest x n           no number of units is nearer to x than n, and of two as near n is the upper
--     RoundingIsNearest     rounded x is nearest to x, and nothing else is
use Rattle.std.specs.Prelude.{◌≡◌, ℕ, ◌+◌, ◌-◌, ◌*◌, ◌/◌, ◌≤◌}

abbrev pub rounded : ℕ → ℕ
rounded x = (x + 500) / 1000

abbrev pub gap : ℕ → ℕ → ℕ
gap x n = (x - 1000 * n) + (1000 * n - x)

pub record Nearest (x n : ℕ) : Type 0 where
  pub nearest : (m : ℕ) → gap x n ≤ gap x m
  pub upward : (m : ℕ) → gap x m ≡ gap x n → m ≤ n

pub record RoundingIsNearest : Type 0 where
  pub is_nearest : (x : ℕ) → Nearest x (rounded x)
  pub only_one : (x m n : ℕ) → Nearest x m → Nearest x n → m ≡ n
