-- The advances of bytes. Assumes nothing.
--     Printable b   b is one of the 95 bytes of a text, the space to the tilde
--     Advances f    f gives each of these bytes an advance of 1 to 255 units
use Rattle.std.specs.Prelude.{ℕ, ◌≤◌}

abbrev pub Printable : ℕ → Type 0
Printable b = (32 ≤ b) × (b ≤ 126)

pub record Advances (f : ℕ → ℕ) : Type 0 where
  pub least : (b : ℕ) → Printable b → 1 ≤ f b
  pub most : (b : ℕ) → Printable b → f b ≤ 255
