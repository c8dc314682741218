-- The range of what a table answers. Assumes nothing.
use Rattle.std.specs.Prelude.{ℕ, ◌*◌, ◌<◌, ◌≤◌, List, slice_index}
use Rattle.std.proofs.Common.{mul-le-mul, arith}
use Rattle.metrics.specs.Places.{place_inside}
use Rattle.metrics.specs.Rounding.{rounded}
use Rattle.metrics.specs.Width.{FitWidth, FitSize, place_of, table_advance}

-- 2,000 thousandths at size 120 are 240 units
pub rounded_small : (w q : ℕ) → FitWidth w → FitSize q → rounded (w * q) ≤ 240
rounded_small w q wide large =
    let product : w * q ≤ 2000 * 120 = mul-le-mul wide.1 large.1 in omega arith

pub table_small : (ws : List ℕ) (q b : ℕ) → ((k : ℕ) → k < 95 → FitWidth (slice_index ws k)) → FitSize q → table_advance ws q b ≤ 255
table_small ws q b wide large =
    let small = rounded_small (slice_index ws (place_of b)) q (wide (place_of b) (place_inside b)) large in omega arith

pub table_some : (ws : List ℕ) (q b : ℕ) → 1 ≤ table_advance ws q b
table_some ws q b = omega arith
