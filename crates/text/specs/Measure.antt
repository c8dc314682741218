-- What is measured of a text's words. Assumes nothing.
--     advance_of adv bytes    how far these bytes move the pen, where adv gives the advance of each
--     bytes_of text w         the bytes of the word that stands at w
--     word_of adv text w      the record of that word
--     measured adv text       the records of the text's words, in their order
--     space_byte              the byte between two words of a line
--     FitAdvance a            a may be the advance of a word
--     run_of w                the word w as a run
--     no_word                 a record of nothing
--     laid new old            the list `old` with `new` written over it from the first place on
use Rattle.std.specs.Prelude.{ℕ, ◌*◌, ◌≤◌, List, ◌++◌, map, length, take, drop, sum_by}
use Rattle.words.specs.Words.{words_of}
use Rattle.words.specs.declared.spans.Span.{Span}
use Rattle.text.specs.Fault.{longest_text}
use Rattle.text.specs.declared.records.Word.{Word}
use Rattle.text.specs.declared.runs.Run.{Run}

abbrev pub advance_of : (ℕ → ℕ) → List ℕ → ℕ
advance_of adv bytes = sum_by adv bytes

abbrev pub bytes_of : List ℕ → Span → List ℕ
bytes_of text w = take w.length (drop w.place text)

abbrev pub word_of : (ℕ → ℕ) → List ℕ → Span → Word
word_of adv text w = record { place = w.place; length = w.length; advance = advance_of adv (bytes_of text w) }

abbrev pub measured : (ℕ → ℕ) → List ℕ → List Word
measured adv text = map (word_of adv text) (words_of text)

abbrev pub space_byte : ℕ
space_byte = 32

-- a word has a byte or more, each of 1 to 255 units
abbrev pub FitAdvance : ℕ → Type 0
FitAdvance a = (1 ≤ a) × (a ≤ 255 * longest_text)

abbrev pub run_of : Word → Run
run_of w = record { advance = w.advance; count = 1 }

abbrev pub no_word : Word
no_word = record { place = 0; length = 0; advance = 0 }

abbrev pub laid : {X : Type 0} → List X → List X → List X
laid new old = new ++ drop (length new) old
