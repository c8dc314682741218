-- The bytes that part a file into lines and a line into fields. Assumes nothing.
--     space, line_end   the byte between two fields, and the byte that ends a line
--     other_than m b    the byte b is not m
use Rattle.std.specs.Prelude.{ℕ, Bool, not, ◌==◌}

abbrev pub space : ℕ
space = 32

abbrev pub line_end : ℕ
line_end = 10

abbrev pub other_than : ℕ → ℕ → Bool
other_than m b = not (b == m)
