-- The bytes that a text may hold. Assumes nothing.
--     allowed b          whether the byte b may stand in a text: the line feed, and ' ' to '~'
--     first_bad text     the offset of the first byte that may not, if there is any
--     FirstBad text r    r is the offset of a bad byte with none before it, or there is none at all
use Rattle.std.specs.Prelude.{◌≡◌, ℕ, ◌<◌, Bool, true, false, not, ◌&&◌, ◌||◌, List, length, Some, None, Option, ◌==◌, nat_le, slice_index}
use Rattle.std.specs.List.{position}

abbrev pub allowed : ℕ → Bool
allowed b = b == 10 || (nat_le 32 b && nat_le b 126)

abbrev pub first_bad : List ℕ → Option ℕ
first_bad = position (λ b. not (allowed b))

abbrev pub FirstBad : List ℕ → Option ℕ → Type 0
FirstBad text None = (k : ℕ) → k < length text → allowed (slice_index text k) ≡ true
FirstBad text (Some i) =
    (i < length text) × (allowed (slice_index text i) ≡ false) × ((k : ℕ) → k < i → allowed (slice_index text k) ≡ true)
