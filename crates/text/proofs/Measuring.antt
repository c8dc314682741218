-- What measuring gives where there is no fault. Assumes nothing.
use Rattle.std.proofs.Common.{◌≡◌, ℕ, ◌<◌, ◌≤◌, List, [], length, get_or, drop, None, sym, ap, ◌∙◌, subst, arith}
use Rattle.metrics.specs.Advance.{Advances}
use Rattle.std.proofs.lemmas.List.{length-map, get_or_append_left}
use Rattle.std.proofs.lemmas.Bool.Decides.{nat_tests}
use Rattle.words.specs.Words.{words_of}
use Rattle.text.specs.Fault.{longest_text, text_fault}
use Rattle.text.specs.Measure.{measured, word_of, laid, FitAdvance, no_word}
use Rattle.text.specs.Text.{unless, accepted}
use Rattle.text.specs.declared.records.Word.{Word}
use Rattle.text.proofs.Advances.{measured_fits}

-- where there is no fault, there are few bytes, and records and cells enough
module _ (text : List ℕ) (words cells : ℕ) (none : text_fault text words cells ≡ None) where
  pub short : length text ≤ longest_text
  short = grind (arith, nat_tests)

  pub room : length (words_of text) ≤ words
  room = grind (arith, nat_tests)

-- and all words are measured
pub all_accepted : (adv : ℕ → ℕ) (text : List ℕ) (words cells : ℕ) → text_fault text words cells ≡ None → accepted adv text words cells ≡ measured adv text
all_accepted adv text words cells none = ap (λ f. unless f [] (measured adv text)) none

-- the records in use, where the words have been laid over the list
module _ (adv : ℕ → ℕ) (text : List ℕ) (old new : List Word) (is : new ≡ laid (measured adv text) old) where
  pub laid_fits : Advances adv → length text ≤ longest_text → (k : ℕ) → k < length (words_of text) → FitAdvance (get_or new k no_word).advance
  laid_fits law few k h =
      let all = measured adv text in
      let long = length-map (words_of text) (word_of adv text) in
      let same = ap (λ ws. get_or ws k no_word) is ∙ get_or_append_left all (drop (length all) old) no_word k (omega arith) in
      subst (λ w. FitAdvance w.advance) (sym same) (measured_fits adv law text few k h)
