-- What a list of boxes comes to. Assumes nothing.
--     totals_of bs   its panels, its lines and their words, each held at the greatest 64-bit number
use Rattle.std.specs.Prelude.{ℕ, ◌+◌, min, List, [], ◌∷◌}
use Rattle.rules.specs.declared.boxes.BoxRecord.{BoxRecord}
use Rattle.rules.specs.declared.boxes.BoxRecord.TheVariants as B
use Rattle.rules.specs.declared.boxes.Totals.{Totals}

abbrev pub panels_in : List BoxRecord → ℕ
panels_in [] = 0
panels_in (B.Panel p ∷ bs) = 1 + panels_in bs
panels_in (B.Line l ∷ bs) = panels_in bs

abbrev pub lines_in : List BoxRecord → ℕ
lines_in [] = 0
lines_in (B.Panel p ∷ bs) = lines_in bs
lines_in (B.Line l ∷ bs) = 1 + lines_in bs

abbrev pub words_in : List BoxRecord → ℕ
words_in [] = 0
words_in (B.Panel p ∷ bs) = words_in bs
words_in (B.Line l ∷ bs) = l.words + words_in bs

abbrev pub held : ℕ → ℕ
held n = min n 18446744073709551615

abbrev pub totals_of : List BoxRecord → Totals
totals_of bs = record { panels = held (panels_in bs); lines = held (lines_in bs); words = held (words_in bs) }
