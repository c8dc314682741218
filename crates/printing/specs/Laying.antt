-- Bytes laid into lent memory, one after another. Assumes nothing.
--     greatest     the greatest number of 64 bits: counts are held at it
--     counted bs   how many bytes bs are, held at that number
--     memory n m   the memory m, with n bytes laid so far
--     laid w bs    what w is when the bytes bs are laid, too: those past the memory's end are counted and left out
use Rattle.std.specs.Prelude.{ℕ, ◌+◌, min, List, [], ◌∷◌, length, slice_set}

abbrev pub greatest : ℕ
greatest = 18446744073709551615

abbrev pub counted : List ℕ → ℕ
counted bs = min greatest (length bs)

pub record Memory : Type 0 where
  pub count : ℕ
  pub bytes : List ℕ

abbrev pub memory : ℕ → List ℕ → Memory
memory n m = record { count = n; bytes = m }

abbrev pub laid : Memory → List ℕ → Memory
laid w [] = w
laid w (b ∷ bs) = laid (memory (min greatest (w.count + 1)) (slice_set w.bytes w.count b)) bs
