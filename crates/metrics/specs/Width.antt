-- The widths of a table, in thousandths, and the advances that they come to at a size. Assumes nothing.
--     FitWidth w             w may be a width of a table
--     FitWidths ws           so may each of ws
--     FitSize q              q may be the size of a table
--     place_of b             where the width of byte b stands: those of bytes that aren't printable where the space's stands
--     width_of ws b          the width of byte b by the widths ws
--     scaled w q             the advance that width w comes to at size q: at least 1
--     table_advance ws q b   the advance of byte b by the widths ws at size q
use Rattle.std.specs.Prelude.{ℕ, ◌-◌, ◌*◌, ◌<◌, ◌≤◌, max, cond, ◌&&◌, List, length, nat_le, slice_index}
use Rattle.metrics.specs.Rounding.{rounded}

abbrev pub FitWidth : ℕ → Type 0
FitWidth w = (1 ≤ w) × (w ≤ 2000)

abbrev pub FitWidths : List ℕ → Type 0
FitWidths ws = (k : ℕ) → k < length ws → FitWidth (slice_index ws k)

abbrev pub FitSize : ℕ → Type 0
FitSize q = (1 ≤ q) × (q ≤ 120)

abbrev pub place_of : ℕ → ℕ
place_of b = cond (nat_le 32 b && nat_le b 126) (b - 32) 0

abbrev pub width_of : List ℕ → ℕ → ℕ
width_of ws b = slice_index ws (place_of b)

abbrev pub scaled : ℕ → ℕ → ℕ
scaled w q = max 1 (rounded (w * q))

abbrev pub table_advance : List ℕ → ℕ → ℕ → ℕ
table_advance ws q b = scaled (width_of ws b) q
