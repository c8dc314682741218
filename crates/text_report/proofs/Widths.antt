-- The words of a text as one run: its two sums never come near the number that they are held at. Assumes nothing.
use Rattle.std.proofs.Common.{◌≡◌, ℕ, ◌+◌, ◌*◌, ◌≤◌, true, leb, List, [], ◌∷◌, map, length, get_or, drop, sum_by, sym, refl, ap, ◌∙◌, subst, arith}
use Rattle.metrics.specs.Advance.{Advances}
use Rattle.segment_tree.specs.Joins.{total}
use Rattle.std.proofs.ByRecursion.{All-from_get_or, sum_by_le}
use Rattle.std.proofs.lemmas.List.{length-map, get_or-take, get_or-drop, length-take}
use Rattle.std.proofs.lemmas.List.Sums.{sum_by-cons}
use Rattle.std.proofs.lemmas.Bool.{and_parts, leb-true}
use Rattle.text.specs.Fault.{longest_text}
use Rattle.text.specs.Measure.{bytes_of, word_of, measured, run_of}
use Rattle.text.specs.Run.{largest, held_sum, no_run, longer}
use Rattle.text.specs.declared.records.Word.{Word}
use Rattle.words.specs.Words.{ink, end, words_of}
use Rattle.words.specs.declared.spans.Span.{Span}
use Rattle.words.proofs.Walks.{Step, Walk, all_walked, half_as_many_words}

abbrev advances_in : List Word → ℕ
advances_in ws = sum_by (λ w. w.advance) ws

-- a sum that is not past the largest is the sum
run_of_all : (ws : List Word) → advances_in ws ≤ largest → length ws ≤ largest → total no_run longer (map run_of ws) ≡ record { advance = advances_in ws; count = length ws }
run_of_all [] few short = refl
run_of_all (w ∷ ws) few short =
    let sum = sum_by-cons (λ v. v.advance) w ws in
    let rest = run_of_all ws (omega arith) (omega arith) in
    let advance : held_sum w.advance (advances_in ws) ≡ advances_in (w ∷ ws) = omega arith in
    let count : held_sum 1 (length ws) ≡ length (w ∷ ws) = omega arith in
    ap (longer (run_of w)) rest ∙ (λ j. record { advance = advance j; count = count j })

module _ (adv : ℕ → ℕ) (law : Advances adv) (text : List ℕ) where
  ink_most : (b : ℕ) → ink b ≡ true → adv b ≤ 255
  ink_most b h =
      let parts = and_parts (leb 33 b) (leb b 126) h in
      law.most b (omega (arith, leb-true 33 b parts.0), leb-true b 126 parts.1)

  word_most : (at : ℕ) (w : Span) → Step text at w → (word_of adv text w).advance ≤ 255 * w.length
  word_most at w step =
      let bytes = bytes_of text w in
      let long = length-take w.length (drop w.place text) in
      let each =
      All-from_get_or (λ b. adv b ≤ 255) bytes 0
      (λ i h.
      let is = get_or-take w.length (drop w.place text) i 0 (omega arith) ∙ get_or-drop w.place text i 0 in
      subst (λ b. adv b ≤ 255) (sym is) (ink_most (get_or text (w.place + i) 0) (step.inked (w.place + i) (omega arith, omega arith)))) in
      omega (arith, sum_by_le adv 255 bytes each)

  -- no byte lies in two words
  words_most : (at : ℕ) (ws : List Span) → Walk text at ws → at ≤ length text → 255 * at + advances_in (map (word_of adv text) ws) ≤ 255 * length text
  words_most at [] walk h = omega arith
  words_most at (w ∷ ws) (step, walk) h =
      let here = word_most at w step in
      let there = words_most (end w) ws walk step.within in
      let sum = sum_by-cons (λ v. v.advance) (word_of adv text w) (map (word_of adv text) ws) in
      let from = step.from in
      omega arith

  pub whole_run : length text ≤ longest_text → total no_run longer (map run_of (measured adv text)) ≡ record { advance = advances_in (measured adv text); count = length (words_of text) }
  whole_run short =
      let most = words_most 0 (words_of text) (all_walked text) (omega arith) in
      let half = half_as_many_words text in
      let count = length-map (words_of text) (word_of adv text) in
      run_of_all (measured adv text) (omega arith) (omega arith)
      ∙ (λ j. record { advance = advances_in (measured adv text); count = count j })
