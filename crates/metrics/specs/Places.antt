-- The width of each byte stands in the table. Assumes nothing.
use Rattle.std.specs.Prelude.{ℕ, ◌-◌, ◌<◌, ◌&&◌, nat_le}
use Rattle.std.proofs.Common.{arith}
use Rattle.std.proofs.lemmas.Bool.{leb-true, and_parts, cond_both}
use Rattle.metrics.specs.Width.{place_of}

pub place_inside : (b : ℕ) → place_of b < 95
place_inside b =
    cond_both (nat_le 32 b && nat_le b 126) (b - 32) 0 (λ p. p < 95)
    (λ e. let h = leb-true b 126 (and_parts (nat_le 32 b) (nat_le b 126) e).1 in omega arith)
    (λ _. omega arith)
