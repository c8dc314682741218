-- There is memory enough for each text that may be measured. Assumes nothing.
use Rattle.std.proofs.Common.{◌≡◌, ℕ, ◌*◌, ◌≤◌, cond, leb, List, length, Some, None, Option, sym, refl, ap, ◌∙◌, ⊎_elim, arith}
use Rattle.segment_tree.specs.LeafCount.{leaf_count}
use Rattle.segment_tree.proofs.Doubling.{leaf_count_least}
use Rattle.std.proofs.lemmas.Bool.{cases_Bool, leb-true, le-leb, and_from, cond-true}
use Rattle.std.proofs.lemmas.Bool.Decides.{nat_tests}
use Rattle.text.specs.Fault.{longest_text, text_fault, long_fault, byte_fault, memory_fault, at_byte, or_else}
use Rattle.text.specs.declared.faults.TextFault.{TextFault}
use Rattle.text.specs.declared.faults.TextFault.TheVariants.{Long, Memory}
use Rattle.words.specs.Alphabet.{first_bad}
use Rattle.words.specs.Words.{words_of}
use Rattle.words.proofs.Walks.{half_as_many_words}
use Rattle.text_report.specs.Law.{MemorySuffices}
use Rattle.text_report.specs.Measures.{most_words, most_cells}

or_none : (f : Option TextFault) → or_else f None ≡ f
or_none None = refl
or_none (Some f) = refl

module _ (text : List ℕ) (words cells : ℕ) (records : most_words ≤ words) (room : most_cells ≤ cells) where
  -- at most 4,096 words, and 4,096 is a power of two
  no_memory_fault : length text ≤ longest_text → memory_fault text words cells ≡ None
  no_memory_fault short =
      let count = length (words_of text) in
      let half = half_as_many_words text in
      let few : count ≤ 4096 = omega arith in
      let leaves : leaf_count count ≤ 4096 = (leaf_count_least count).least 12 few in
      cond-true _ None (Some Memory)
      (and_from _ _ (le-leb count words (omega arith)) (le-leb (2 * leaf_count count) cells (omega arith)))

  pub memory_enough : text_fault text words cells ≡ or_else (long_fault text) (byte_fault text)
  memory_enough =
      ⊎_elim
      (λ h.
      ap (or_else (long_fault text))
      (ap (or_else (byte_fault text)) (no_memory_fault (leb-true (length text) longest_text h)) ∙ or_none (byte_fault text)))
      (λ h.
      let long : long_fault text ≡ Some Long = ap (λ b. cond b None (Some Long)) h in
      ap (λ f. or_else f (or_else (byte_fault text) (memory_fault text words cells))) long
      ∙ sym (ap (λ f. or_else f (byte_fault text)) long))
      (cases_Bool (leb (length text) longest_text))

never_memory : (text : List ℕ) (o : Option ℕ) → or_else (long_fault text) (at_byte o) ≡ Some Memory → ⊥
never_memory text None e = grind (arith, nat_tests)
never_memory text (Some p) e = grind (arith, nat_tests)

pub memory_suffices : MemorySuffices
memory_suffices text words cells records room e =
    never_memory text (first_bad text) (sym (memory_enough text words cells records room) ∙ e)
