-- What is rounded is the nearest number of units, and the only one. Assumes nothing.
use Rattle.std.proofs.Common.{◌≡◌, ℕ, ◌+◌, ◌*◌, ◌<◌, ◌≤◌, sym, le_antisymm, arith}
use Rattle.metrics.specs.Rounding.{rounded, gap, Nearest, RoundingIsNearest}

-- n is nearest to what lies from half a unit below it up to, and without, half a unit above it
nearest_between : (x n : ℕ) → 1000 * n ≤ x + 500 → x < 1000 * n + 500 → Nearest x n
nearest_between x n from below = record { nearest = λ m. omega arith; upward = λ m same. omega arith }

pub rounding_is_nearest : RoundingIsNearest
rounding_is_nearest = record {
  is_nearest = λ x. nearest_between x (rounded x) (omega arith) (omega arith);
  only_one = λ x m n a b.
      let below = a.nearest n in
      let above = b.nearest m in
      let same : gap x m ≡ gap x n = le_antisymm below above in
      le_antisymm (b.upward m same) (a.upward n (sym same));
}
