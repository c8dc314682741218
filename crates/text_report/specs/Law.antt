-- What holds of every file. Assumes nothing.
--     no_line, no_measure           what is taken where a list has nothing
--     AllMeasured adv n ls ms       each of the lines ls, from line n on, measures to the text of ms in its place
--     FirstFault adv n ls x         x is the fault of one of these lines, and each line before it is measured
--     Reports ls out                out is what is to be printed of a file of the lines ls
--     ReportsStand                  so is the report of every file, and nothing else
--     MemorySuffices                no text has too many words for the memory that it is measured in
use Rattle.std.specs.Prelude.{◌≡◌, ℕ, ◌+◌, ◌-◌, ◌<◌, ◌≤◌, true, false, List, [], ◌∷◌, length, is_ok, Some, Ok, Err, slice_index_or}
use Rattle.lexer.specs.Lines.{FileLine, file_line, file_lines}
use Rattle.text.specs.Fault.{text_fault}
use Rattle.text.specs.declared.faults.TextFault.TheVariants.{Memory}
use Rattle.text_report.specs.Faults.{fault_line, Located}
use Rattle.text_report.specs.Headings.{advances_of}
use Rattle.text_report.specs.Measures.{most_words, most_cells, text_measure}
use Rattle.text_report.specs.Printing.{listed}
use Rattle.fault_lines.specs.Locations.{at_line}
use Rattle.text_report.specs.Report.{report_of}
use Rattle.text_report.specs.declared.faults.FileFault.{FileFault}
use Rattle.text_report.specs.declared.faults.FileFault.TheVariants.{NoMetric}
use Rattle.text_report.specs.declared.texts.Measured.{Measured}

abbrev pub no_line : FileLine
no_line = file_line [] false

abbrev pub no_measure : Measured
no_measure = record { line = 0; words = 0; width = 0 }

pub record AllMeasured (adv : ℕ → ℕ) (n : ℕ) (ls : List FileLine) (ms : List Measured) : Type 0 where
  pub many : length ms ≡ length ls
  pub each : (k : ℕ) → k < length ls → text_measure adv (n + k) (slice_index_or ls k no_line) ≡ Ok (slice_index_or ms k no_measure)

pub record FirstFault (adv : ℕ → ℕ) (n : ℕ) (ls : List FileLine) (x : Located) : Type 0 where
  pub from : n ≤ x.line
  pub within : x.line < n + length ls
  pub refused : text_measure adv x.line (slice_index_or ls (x.line - n) no_line) ≡ Err x.fault
  pub before : (k : ℕ) → n + k < x.line → is_ok (text_measure adv (n + k) (slice_index_or ls k no_line)) ≡ true

-- by the lines of a file
pub data Reports : List FileLine → List ℕ → Type 0 where
  empty : Reports [] (fault_line (at_line 1 NoMetric))
  unfit : (l : FileLine) (ls : List FileLine) (f : FileFault) → advances_of l ≡ Err f → Reports (l ∷ ls) (fault_line (at_line 1 f))
  faulty : (l : FileLine) (ls : List FileLine) (adv : ℕ → ℕ) (x : Located) → advances_of l ≡ Ok adv → FirstFault adv 2 ls x → Reports (l ∷ ls) (fault_line x)
  whole : (l : FileLine) (ls : List FileLine) (adv : ℕ → ℕ) (ms : List Measured) → advances_of l ≡ Ok adv → AllMeasured adv 2 ls ms → Reports (l ∷ ls) (listed ms)

pub record ReportsStand : Type 0 where
  pub stands : (file : List ℕ) → Reports (file_lines file) (report_of file)
  pub only_one : (file out : List ℕ) → Reports (file_lines file) out → out ≡ report_of file

abbrev pub MemorySuffices : Type 0
MemorySuffices =
    (text : List ℕ) (words cells : ℕ) → most_words ≤ words → most_cells ≤ cells → text_fault text words cells ≡ Some Memory → ⊥
