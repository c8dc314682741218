-- One text: its words together are one run, and it is measured where nothing refuses it. Assumes nothing.
use Rattle.std.proofs.Common.{◌≡◌, ℕ, ◌-◌, ◌≤◌, List, [], map, length, Some, None, Ok, Err, sym, ap, ◌∙◌, arith}
use Rattle.lexer.specs.Lines.{FileLine}
use Rattle.metrics.specs.Advance.{Advances}
use Rattle.segment_tree.specs.Joins.{total, fold_of}
use Rattle.std.proofs.lemmas.List.{length-map, take_all}
use Rattle.std.proofs.lemmas.Bool.Decides.{nat_tests}
use Rattle.text.specs.Fault.{longest_text, or_else, long_fault, byte_fault, text_fault}
use Rattle.text.specs.Measure.{measured, run_of, space_byte, word_of}
use Rattle.text.specs.Run.{no_run, longer, width_of}
use Rattle.text.specs.Text.{words_in, runs_in, Measures, unless as choice}
use Rattle.text.specs.declared.faults.TextFault.{TextFault}
use Rattle.text.specs.declared.records.Word.{Word}
use Rattle.text.specs.declared.runs.Run.{Run}
use Rattle.text.specs.declared.texts.Text.{Text}
use Rattle.words.specs.Words.{words_of}
use Rattle.text_report.specs.Measures.{most_words, most_cells, line_ending, unless, refused, one_line, measure_of, text_measure}
use Rattle.text_report.specs.Onward.{onward}
use Rattle.text_report.specs.declared.faults.FileFault.TheVariants.{Form, Measuring}
use Rattle.text_report.specs.declared.texts.Measured.{Measured}
use Rattle.text_report.proofs.Memory.{memory_enough}
use Rattle.text_report.proofs.Widths.{whole_run}

fold_all : {M : Type 0} (none : M) (op : M → M → M) (xs : List M) (n : ℕ) → n ≡ length xs → fold_of none op xs 0 n ≡ total none op xs
fold_all none op xs n e = ap (total none op) (take_all (n - 0) xs (omega arith))

short_enough : (text : List ℕ) → or_else (long_fault text) (byte_fault text) ≡ None → length text ≤ longest_text
short_enough text none = grind (arith, nat_tests)

-- in memory for the longest text, a text is refused for its bytes alone
module _ (text : List ℕ) (words cells : ℕ) (records : most_words ≤ words) (room : most_cells ≤ cells) where
  pub accepted_text : text_fault text words cells ≡ None → Ok tt ≡ refused text
  accepted_text none = sym (ap unless (sym (memory_enough text words cells records room) ∙ none))

  pub refused_text : (f : TextFault) → text_fault text words cells ≡ Some f → Err f ≡ refused text
  refused_text f is = sym (ap unless (sym (memory_enough text words cells records room) ∙ is))

-- a text that is not refused is measured whole
module _
    (adv : ℕ → ℕ) (text : List ℕ) (words : List Word) (cells : List Run) (t : Text)
    (records : most_words ≤ length words) (room : most_cells ≤ length cells)
    (fine : text_fault text (length words) (length cells) ≡ None)
    (made : Measures adv text words cells t)
  where
    none : or_else (long_fault text) (byte_fault text) ≡ None
    none = sym (memory_enough text (length words) (length cells) records room) ∙ fine

    words_are : words_in t ≡ measured adv text
    words_are = made.which ∙ ap (λ f. choice f [] (measured adv text)) fine

    pub all_words : length (words_in t) ≡ length (words_of text)
    all_words = ap length words_are ∙ length-map (words_of text) (word_of adv text)

    -- its words as one run have just the width that they have on one line
    pub whole_width : Advances adv → (n : ℕ) → n ≡ length (words_in t) → width_of (fold_of no_run longer (runs_in t) 0 n) t.space ≡ one_line adv text
    whole_width law n e =
        let run =
        fold_all no_run longer (runs_in t) n (e ∙ sym (length-map (words_in t) run_of))
        ∙ ap (λ ws. total no_run longer (map run_of ws)) words_are
        ∙ whole_run adv law text (short_enough text none) in
        ap (width_of (fold_of no_run longer (runs_in t) 0 n)) made.space ∙ ap (λ r. width_of r (adv space_byte)) run

pub measured_text : (adv : ℕ → ℕ) (n : ℕ) (l : FileLine) (m : Measured) → Ok tt ≡ line_ending l → Ok tt ≡ refused l.bytes → m ≡ measure_of adv n l.bytes → Ok m ≡ text_measure adv n l
measured_text adv n l m ended fine is =
    ap Ok is
    ∙ ap (λ r. onward Measuring r (λ _. Ok (measure_of adv n l.bytes))) fine
    ∙ ap (λ r. onward Form r (λ _. onward Measuring (refused l.bytes) (λ _. Ok (measure_of adv n l.bytes)))) ended

pub refused_measure : (adv : ℕ → ℕ) (n : ℕ) (l : FileLine) (f : TextFault) → Ok tt ≡ line_ending l → Err f ≡ refused l.bytes → Err (Measuring f) ≡ text_measure adv n l
refused_measure adv n l f ended is =
    ap (λ r. onward Measuring r (λ _. Ok (measure_of adv n l.bytes))) is
    ∙ ap (λ r. onward Form r (λ _. onward Measuring (refused l.bytes) (λ _. Ok (measure_of adv n l.bytes)))) ended
