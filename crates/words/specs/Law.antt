-- What the words of a text are, whichever way they are found. Assumes nothing.
--     Inked text k    the byte at the offset k is ink; Blank text k: it is not
--     Holds w k       the byte at k is one of the word w
--     Word text w     w is a longest run of ink of the text
--     Apart ws        each ends before those after it begin, with a byte between or more
--     Once k ws       the byte at k lies in one of ws, and in one only
--     Words text ws   ws are the words of the text, in their order
use Rattle.std.specs.Prelude.{◌≡◌, ℕ, ◌+◌, ◌*◌, ◌<◌, ◌≤◌, true, false, ◌⊎◌, List, [], ◌∷◌, length, slice_index}
use Rattle.std.specs.List.{AllByRecursion}
use Rattle.words.specs.declared.spans.Span.{Span}
use Rattle.words.specs.Words.{ink, end, words_of}

abbrev pub Inked : List ℕ → ℕ → Type 0
Inked text k = ink (slice_index text k) ≡ true

abbrev pub Blank : List ℕ → ℕ → Type 0
Blank text k = ink (slice_index text k) ≡ false

abbrev pub Holds : Span → ℕ → Type 0
Holds w k = (w.place ≤ k) × (k < end w)

pub record Word (text : List ℕ) (w : Span) : Type 0 where
  pub some : 0 < w.length
  pub within : end w ≤ length text
  pub inked : (k : ℕ) → Holds w k → Inked text k
  -- and no longer run of ink holds it
  pub before : (k : ℕ) → k + 1 ≡ w.place → Blank text k
  pub after : end w < length text → Blank text (end w)

abbrev pub Apart : List Span → Type 0
Apart [] = Unit {0}
Apart (w ∷ ws) = AllByRecursion (λ v. end w < v.place) ws × Apart ws

abbrev pub Once : ℕ → List Span → Type 0
Once k [] = ⊥
Once k (w ∷ ws) = (Holds w k × AllByRecursion (λ v. Holds v k → ⊥) ws) ⊎ ((Holds w k → ⊥) × Once k ws)

pub record Words (text : List ℕ) (ws : List Span) : Type 0 where
  pub runs : AllByRecursion (Word text) ws
  pub apart : Apart ws
  pub covered : (k : ℕ) → k < length text → Inked text k → Once k ws

abbrev pub WordsAreRuns : Type 0
WordsAreRuns = (text : List ℕ) → Words text (words_of text)

-- a text has no other words
abbrev pub WordsAreThese : Type 0
WordsAreThese = (text : List ℕ) (ws : List Span) → Words text ws → ws ≡ words_of text

abbrev pub HalfAsManyWords : Type 0
HalfAsManyWords = (text : List ℕ) → 2 * length (words_of text) ≤ length text + 1
