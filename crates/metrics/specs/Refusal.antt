-- The number of the one refusal. Assumes nothing.
--     unfit   an advance, a size, a table's width or its length is out of range
use Rattle.std.specs.Prelude.{ℕ}

abbrev pub unfit : ℕ
unfit = 4
