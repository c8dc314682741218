-- How far a word moves the pen, at least and at most. Assumes nothing.
use Rattle.std.proofs.Common.{◌≡◌, ℕ, ◌+◌, ◌*◌, ◌<◌, ◌≤◌, true, leb, List, [], ◌∷◌, length, get_or, drop, ap, ◌∙◌, arith}
use Rattle.metrics.specs.Advance.{Advances}
use Rattle.std.specs.List.{AllByRecursion}
use Rattle.std.proofs.ByRecursion.{All-get_or, All-from_get_or}
use Rattle.std.proofs.lemmas.List.{get_or-take, get_or-drop, get_or-map, length-take, length-drop}
use Rattle.std.proofs.lemmas.List.Sums.{sum_by-cons}
use Rattle.std.proofs.lemmas.Bool.{and_parts, leb-true}
use Rattle.words.specs.Law.{Word as IsWord}
use Rattle.words.specs.Words.{ink, words_of}
use Rattle.words.specs.declared.spans.Span.{Span}
use Rattle.words.proofs.Walks.{words_are_runs}
use Rattle.text.specs.Fault.{longest_text}
use Rattle.text.specs.Measure.{advance_of, bytes_of, word_of, measured, FitAdvance, no_word}

abbrev Ink : ℕ → Type 0
Ink b = ink b ≡ true

-- the bytes of a word are as many as it says, and ink
module _ (text : List ℕ) (w : Span) (is : IsWord text w) where
  length_bytes : length (bytes_of text w) ≡ w.length
  length_bytes =
      let rest = length-drop w.place text in
      let within = is.within in
      length-take w.length (drop w.place text) ∙ omega arith

  bytes_inked : AllByRecursion Ink (bytes_of text w)
  bytes_inked =
      All-from_get_or Ink (bytes_of text w) 0
      (λ i h.
      let lt : i < w.length = omega (arith, length_bytes) in
      ap ink (get_or-take w.length (drop w.place text) i 0 lt ∙ get_or-drop w.place text i 0)
      ∙ is.inked (w.place + i) (omega arith, omega arith))

module _ (adv : ℕ → ℕ) (law : Advances adv) where
  -- each byte of ink moves the pen by 1 to 255 units
  ink_moves : (b : ℕ) → Ink b → (1 ≤ adv b) × (adv b ≤ 255)
  ink_moves b h =
      let parts = and_parts (leb 33 b) (leb b 126) h in
      let low = leb-true 33 b parts.0 in
      let high = leb-true b 126 parts.1 in
      (law.least b (omega arith, high), law.most b (omega arith, high))

  bytes_move : (bytes : List ℕ) → AllByRecursion Ink bytes → (length bytes ≤ advance_of adv bytes) × (advance_of adv bytes ≤ 255 * length bytes)
  bytes_move [] tt = (omega arith, omega arith)
  bytes_move (b ∷ bs) (h, hs) =
      let here = ink_moves b h in
      let there = bytes_move bs hs in
      let more = sum_by-cons adv b bs in
      (omega arith, omega arith)

  word_fits : (text : List ℕ) (w : Span) → IsWord text w → length text ≤ longest_text → FitAdvance (word_of adv text w).advance
  word_fits text w is short =
      let moves = bytes_move (bytes_of text w) (bytes_inked text w is) in
      let long = length_bytes text w is in
      (omega (arith, is.some), omega (arith, is.within))

  pub measured_fits : (text : List ℕ) → length text ≤ longest_text → (k : ℕ) → k < length (words_of text) → FitAdvance (get_or (measured adv text) k no_word).advance
  measured_fits text short k h =
      let none : Span = record { place = 0; length = 0 } in
      let w = get_or (words_of text) k none in
      let fits = word_fits text w (All-get_or (IsWord text) (words_of text) k none h (words_are_runs text).runs) short in
      rw (get_or-map (word_of adv text) (words_of text) k none no_word h) fits
