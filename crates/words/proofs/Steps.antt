-- From one word of a text to the next.
use Rattle.std.proofs.Common.{◌≡◌, ℕ, suc, ◌+◌, ◌-◌, ◌<◌, ◌≤◌, Bool, true, false, cond, not, ◌&&◌, List, [], ◌∷◌, length, get_or, drop, sym, refl, ap, ◌∙◌, ⊎_elim, one-add, arith}
use Rattle.std.specs.List.{prefix_len}
use Rattle.std.proofs.lemmas.List.{drop-drop, at_drop_more, at_drop_all}
use Rattle.std.proofs.lemmas.List.Sums.{prefix_len-drop_yes}
use Rattle.std.proofs.lemmas.Bool.{true≢false, false≢true, cases_Bool, cond-true, cond-false, and_from, not-false}
use Rattle.words.specs.declared.spans.Span.{Span}
use Rattle.words.specs.Words.{ink, blank, word_start, word_end, words_after, words_left, end, Lies}
use Rattle.words.proofs.Runs.{run_stops, run_within}

-- whether a byte is ink as the byte before it is
abbrev like : Bool → ℕ → Bool
like inked b = cond inked (ink b) (not (ink b))

-- a byte like the one before it begins no word
same : (v w : Bool) (more : List Span) (p : ℕ) (bs : List ℕ) → cond v w (not w) ≡ true → cond (w && not v) more (words_after w (p + 1) bs) ≡ words_after v (p + 1) bs
same true true more p bs e = refl
same true false more p bs e = absurd (false≢true e)
same false true more p bs e = absurd (false≢true e)
same false false more p bs e = refl

-- at a byte unlike the one before it, that one no longer matters
turned : (v w : Bool) (more : List Span) (p : ℕ) (bs : List ℕ) → cond v w (not w) ≡ false → cond (w && not v) more (words_after w (p + 1) bs) ≡ cond (w && not false) more (words_after w (p + 1) bs)
turned true true more p bs e = absurd (true≢false e)
turned true false more p bs e = refl
turned false true more p bs e = refl
turned false false more p bs e = absurd (true≢false e)

-- no word begins in the rest of a word, nor among blanks
jump : (v : Bool) (bs : List ℕ) (p : ℕ) → words_after v p bs ≡ words_after false (p + prefix_len (like v) bs) (drop (prefix_len (like v) bs) bs)
jump v [] p = refl
jump v (b ∷ bs) p =
    ⊎_elim
    (λ e. let y : prefix_len (like v) (b ∷ bs) ≡ suc (prefix_len (like v) bs) = cond-true _ _ _ e ∙ one-add _ in
    let q : p + 1 + prefix_len (like v) bs ≡ p + prefix_len (like v) (b ∷ bs) = omega (arith, y) in
    same v (ink b) _ p bs e ∙ jump v bs (p + 1) ∙ (λ j. words_after false (q j) (drop (sym y j) (b ∷ bs))))
    (λ e. let z : prefix_len (like v) (b ∷ bs) ≡ 0 = cond-false _ _ _ e in
    let q : p ≡ p + prefix_len (like v) (b ∷ bs) = omega (arith, z) in
    turned v (ink b) _ p bs e ∙ (λ j. words_after false (q j) (drop (sym z j) (b ∷ bs))))
    (cases_Bool (like v b))

left_start : (text : List ℕ) (at : ℕ) → words_left text at ≡ words_left text (word_start text at)
left_start text at =
    jump false (drop at text) at ∙ ap (words_after false (word_start text at)) (drop-drop (prefix_len blank (drop at text)) at text)

pub none_left : (text : List ℕ) (at : ℕ) → length text ≤ word_start text at → words_left text at ≡ []
none_left text at h = left_start text at ∙ at_drop_all (words_after false (word_start text at)) text (word_start text at) h

-- the word that begins at `place` and goes on to `stop`
abbrev pub word : ℕ → ℕ → Span
word place stop = record { place = place; length = stop - place }

module _ (text : List ℕ) (place stop : ℕ) (within : place < length text) (inked : ink (get_or text place 0) ≡ true) (stops : stop ≡ word_end text place) where
  run_length : stop ≡ place + (1 + prefix_len ink (drop (place + 1) text))
  run_length = stops ∙ ap (λ n. place + n) (prefix_len-drop_yes ink text place 0 within inked)

  word_here : words_left text place ≡ word place stop ∷ words_left text (end (word place stop))
  word_here =
      let rest = drop (place + 1) text in
      let m = prefix_len ink rest in
      let run = run_length in
      let n : prefix_len ink (get_or text place 0 ∷ rest) ≡ stop - place = cond-true _ _ _ inked ∙ omega arith in
      let q : place + 1 + m ≡ place + (stop - place) = omega arith in
      let others = jump true rest (place + 1) ∙ ap (words_after false (place + 1 + m)) (drop-drop m (place + 1) text) ∙ ap (words_left text) q in
      at_drop_more (words_after false place) text place 0 within
      ∙ cond-true _ _ _ (and_from _ _ inked refl)
      ∙ (λ j. record { place = place; length = n j } ∷ others j)

module _ (text : List ℕ) (at place stop : ℕ) (starts : place ≡ word_start text at) (within : place < length text) (stops : stop ≡ word_end text place) where
  place_inked : ink (get_or text place 0) ≡ true
  place_inked = ap (λ k. ink (get_or text k 0)) starts ∙ not-false _ (run_stops blank text at (omega arith))

  pub word_left : words_left text at ≡ word place stop ∷ words_left text (end (word place stop))
  word_left = left_start text at ∙ ap (words_left text) (sym starts) ∙ word_here text place stop within place_inked stops

  pub word_lies : Lies text at (word place stop)
  word_lies =
      let run = run_length text place stop within place_inked stops in
      let short = run_within ink text place (omega arith) in
      record { after = omega arith; some = omega arith; within = omega arith }
