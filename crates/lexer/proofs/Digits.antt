-- A number read digit by digit. Assumes nothing.
use Rattle.std.proofs.Common.{◌≡◌, ℕ, ◌^◌, ◌<◌, List, drop}
use Rattle.lexer.specs.Numerals.{reads}

-- the first i bytes are digits that write n
pub record Sofar (bs : List ℕ) (i n : ℕ) : Type 0 where
  pub small : n < 10 ^ i
  pub left : reads n (drop i bs) ≡ reads 0 bs
