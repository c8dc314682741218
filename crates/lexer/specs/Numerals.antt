-- Numbers as they are written in a field. Assumes nothing.
--     digit b         the byte b is a decimal digit
--     reads n bs      the number that the digits bs write after those of n, if all are digits
--     numeral bs      the number that the field bs writes: 1 to 5 digits without a leading zero, at most 65,535
--     NumeralsStand   a number's field is exactly what is printed of a number up to 65,535
use Rattle.std.specs.Prelude.{◌≡◌, ℕ, ◌+◌, ◌-◌, ◌*◌, ◌≤◌, Bool, cond, ◌&&◌, List, [], ◌∷◌, length, Some, None, decimal, Option, ◌==◌, nat_le, nat_lt, slice_index}

abbrev pub most_digits : ℕ
most_digits = 5

abbrev pub largest : ℕ
largest = 65535

-- '0' to '9'
abbrev pub digit : ℕ → Bool
digit b = nat_le 48 b && nat_le b 57

abbrev pub reads : ℕ → List ℕ → Option ℕ
reads n [] = Some n
reads n (b ∷ bs) = cond (digit b) (reads (n * 10 + (b - 48)) bs) None

abbrev pub capped : Option ℕ → Option ℕ
capped None = None
capped (Some n) = cond (nat_le n largest) (Some n) None

-- a zero before other digits
abbrev pub padded : List ℕ → Bool
padded bs = slice_index bs 0 == 48 && nat_lt 1 (length bs)

unfoldable pub numeral : List ℕ → Option ℕ
numeral bs = cond (length bs == 0) None (cond (nat_lt most_digits (length bs)) None (cond (padded bs) None (capped (reads 0 bs))))

abbrev pub NumeralsStand : Type 0
NumeralsStand =
    ((n : ℕ) → n ≤ largest → numeral (decimal n) ≡ Some n)
    × ((bs : List ℕ) (n : ℕ) → numeral bs ≡ Some n → (bs ≡ decimal n) × (n ≤ largest))
