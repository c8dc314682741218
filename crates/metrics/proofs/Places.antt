-- Where the width of a byte stands in a table. Assumes nothing.
use Rattle.std.proofs.Common.{◌≡◌, ℕ, ◌-◌, ◌&&◌, refl}
use Rattle.std.specs.Prelude.{nat_le}
use Rattle.std.proofs.lemmas.Bool.{leb-true, le-leb, and_parts, and_from, cond_both, cond-true}
use Rattle.metrics.specs.Advance.{Printable}
use Rattle.metrics.specs.Width.{place_of}

pub place_own : (b : ℕ) → Printable b → place_of b ≡ b - 32
place_own b printable =
    cond-true (nat_le 32 b && nat_le b 126) (b - 32) 0
    (and_from (nat_le 32 b) (nat_le b 126) (le-leb 32 b printable.0) (le-leb b 126 printable.1))

pub place_other : (b : ℕ) → (Printable b → ⊥) → place_of b ≡ 0
place_other b other =
    cond_both (nat_le 32 b && nat_le b 126) (b - 32) 0 (λ p. p ≡ 0)
    (λ e. let a = and_parts (nat_le 32 b) (nat_le b 126) e in absurd (other (leb-true 32 b a.0, leb-true b 126 a.1)))
    (λ _. refl)
