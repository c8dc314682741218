-- How many lines a file has, and at most how many words. Assumes nothing.
--     bytes_in ls    how many bytes the lines ls hold
--     words_told r   how many words are told of: none where there is a fault
use Rattle.std.proofs.Common.{◌≡◌, ℕ, ◌+◌, ◌≤◌, Bool, true, false, cond, eqb, List, [], ◌∷◌, length, Some, None, Ok, Err, MatchOption, Option, Result, ap, arith}
use Rattle.lexer.specs.Bytes.{line_end}
use Rattle.lexer.specs.Lines.{FileLine, file_line, file_lines, with_byte}
use Rattle.lexer.specs.LinesLeft.{line_of}
use Rattle.lexer.specs.declared.faults.Fault.{Fault}
use Rattle.lexer.specs.declared.lines.Line.{Line}
use Rattle.lexer.proofs.Counts.{length_file_lines}
use Rattle.std.proofs.lemmas.List.Sums.{sum_by-cons}
use Rattle.text.specs.declared.faults.TextFault.{TextFault}
use Rattle.words.proofs.Walks.{half_as_many_words}
use Rattle.text_report.specs.Headings.{advances_of}
use Rattle.text_report.specs.Measures.{line_ending, refused, measure_of}
use Rattle.text_report.specs.Onward.{onward}
use Rattle.text_report.specs.Printing.{words_in}
use Rattle.fault_lines.specs.Locations.{at_line, on_line}
use Rattle.text_report.specs.Reading.{before, text_measures, file_measures}
use Rattle.text_report.specs.declared.faults.FileFault.{FileFault}
use Rattle.text_report.specs.declared.faults.FileFault.TheVariants.{Form, Measuring}
use Rattle.text_report.specs.Faults.{Located}
use Rattle.text_report.specs.declared.texts.Measured.{Measured}

-- the lines after the next one are no more than the bytes
pub length_left : (file : List ℕ) (ls : List FileLine) (r : Option Line) (after : List FileLine) → ls ≡ file_lines file
    → MatchOption r ((ls ≡ []) × (after ≡ [])) (λ l. ls ≡ line_of l ∷ after)
    → length after ≤ length file
length_left file ls None after e h = omega (arith, ap length h.1)
length_left file ls (Some l) after e h = omega (arith, ap length h, ap length e, length_file_lines file)

abbrev bytes_in : List FileLine → ℕ
bytes_in [] = 0
bytes_in (l ∷ ls) = length l.bytes + bytes_in ls

bytes_with_byte : (b : ℕ) (ls : List FileLine) → bytes_in (with_byte b ls) ≡ 1 + bytes_in ls
bytes_with_byte b [] = omega arith
bytes_with_byte b (l ∷ ls) = omega arith

bytes_of_file : (file : List ℕ) → bytes_in (file_lines file) ≤ length file
bytes_of_file [] = omega arith
bytes_of_file (b ∷ bs) =
    let rest = bytes_of_file bs in
    let more = bytes_with_byte b (file_lines bs) in
    let P : Bool → Type 0 = λ t. bytes_in (cond t (file_line [] true ∷ file_lines bs) (with_byte b (file_lines bs))) ≤ length (b ∷ bs) in
    elim (eqb b line_end) as P [ true ↦ omega arith | false ↦ omega arith ]

abbrev words_told : Result (List Measured) Located → ℕ
words_told (Ok ms) = words_in ms
words_told (Err x) = 0

-- a line has no more words than bytes
told_here : (n : ℕ) (e : Result (Unit {0}) Fault) (f : Result (Unit {0}) TextFault) (m : Measured) (rest : Result (List Measured) Located)
    → words_told (before (on_line n (onward Form e (λ _. onward Measuring f (λ _. Ok m)))) rest) ≤ m.words + words_told rest
told_here n (Err e) f m rest = omega arith
told_here n (Ok _) (Err f) m rest = omega arith
told_here n (Ok _) (Ok _) m (Err x) = omega arith
told_here n (Ok _) (Ok _) m (Ok ms) = let sum = sum_by-cons (λ k. k.words) m ms in omega arith

told_texts : (adv : ℕ → ℕ) (n : ℕ) (ls : List FileLine) → words_told (text_measures adv n ls) ≤ bytes_in ls
told_texts adv n [] = omega arith
told_texts adv n (l ∷ ls) =
    let rest = told_texts adv (n + 1) ls in
    let here = told_here n (line_ending l) (refused l.bytes) (measure_of adv n l.bytes) (text_measures adv (n + 1) ls) in
    let half = half_as_many_words l.bytes in
    omega arith

told_after : (r : Result (ℕ → ℕ) FileFault) (ls : List FileLine) → words_told (onward (at_line 1) r (λ adv. text_measures adv 2 ls)) ≤ bytes_in ls
told_after (Ok adv) ls = told_texts adv 2 ls
told_after (Err f) ls = omega arith

told_lines : (ls : List FileLine) → words_told (file_measures ls) ≤ bytes_in ls
told_lines [] = omega arith
told_lines (l ∷ ls) = let rest = told_after (advances_of l) ls in omega arith

-- the texts of a file have no more words than the file has bytes
pub words_of_file : (file : List ℕ) (ms : List Measured) → file_measures (file_lines file) ≡ Ok ms → words_in ms ≤ length file
words_of_file file ms e =
    let all = told_lines (file_lines file) in
    let few = bytes_of_file file in
    let same = ap words_told e in
    omega arith
