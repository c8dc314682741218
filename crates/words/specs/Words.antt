-- The words of a text, as they are found one after another. Assumes nothing.
--     ink b                whether the byte b belongs to a word: '!' to '~'; blank b: it does not
--     word_start text at   the first offset from `at` on with ink, or the end of the text
--     word_end text at     the first offset from `at` on without ink, or the end of the text
--     end w                the offset just past the word w
--     words_of text        its words, first to last
--     words_left text at   the words of what is left of it from `at` on
--     Next text at r       r is the first of those, if there is any, and the others are left from its end on
--     Lies text at w       w has a byte, and lies in the text from `at` on
use Rattle.std.specs.Prelude.{◌≡◌, ℕ, ◌+◌, ◌<◌, ◌≤◌, Bool, true, false, cond, not, ◌&&◌, List, [], ◌∷◌, length, drop, Some, None, Option, nat_le}
use Rattle.std.specs.List.{prefix_len}
use Rattle.words.specs.declared.spans.Span.{Span}

abbrev pub ink : ℕ → Bool
ink b = nat_le 33 b && nat_le b 126

abbrev pub blank : ℕ → Bool
blank b = not (ink b)

abbrev pub word_start : List ℕ → ℕ → ℕ
word_start text at = at + prefix_len blank (drop at text)

abbrev pub word_end : List ℕ → ℕ → ℕ
word_end text at = at + prefix_len ink (drop at text)

abbrev pub end : Span → ℕ
end w = w.place + w.length

-- The words of the bytes that stand from p on, `inked` where the byte before them is ink:
-- a word begins at each ink byte that follows no ink, and goes on as long as the ink does.
abbrev pub words_after : Bool → ℕ → List ℕ → List Span
words_after inked p [] = []
words_after inked p (b ∷ bs) =
    cond (ink b && not inked)
    (record { place = p; length = prefix_len ink (b ∷ bs) } ∷ words_after true (p + 1) bs)
    (words_after (ink b) (p + 1) bs)

abbrev pub words_left : List ℕ → ℕ → List Span
words_left text at = words_after false at (drop at text)

abbrev pub words_of : List ℕ → List Span
words_of text = words_left text 0

abbrev pub Next : List ℕ → ℕ → Option Span → Type 0
Next text at None = words_left text at ≡ []
Next text at (Some w) = words_left text at ≡ w ∷ words_left text (end w)

pub record Lies (text : List ℕ) (at : ℕ) (w : Span) : Type 0 where
  pub after : at ≤ w.place
  pub some : 0 < w.length
  pub within : end w ≤ length text
