-- What the lines of a file measure to. Assumes nothing.
--     text_measures adv n ls   what the texts on the lines ls measure to, the first of which is line n of the file
--     file_measures ls         what the texts of a file with the lines ls measure to: the first line is its metric line
use Rattle.std.specs.Prelude.{ℕ, ◌+◌, List, [], ◌∷◌, Ok, Err, Result}
use Rattle.fault_lines.specs.Locations.{at_line, on_line}
use Rattle.lexer.specs.Lines.{FileLine}
use Rattle.text_report.specs.Headings.{advances_of}
use Rattle.text_report.specs.Measures.{text_measure}
use Rattle.text_report.specs.Onward.{onward}
use Rattle.text_report.specs.declared.faults.FileFault.TheVariants.{NoMetric}
use Rattle.text_report.specs.Faults.{Located}
use Rattle.text_report.specs.declared.texts.Measured.{Measured}

-- the first fault, or all
abbrev pub before : Result Measured Located → Result (List Measured) Located → Result (List Measured) Located
before (Err x) rest = Err x
before (Ok m) (Err x) = Err x
before (Ok m) (Ok ms) = Ok (m ∷ ms)

abbrev pub text_measures : (ℕ → ℕ) → ℕ → List FileLine → Result (List Measured) Located
text_measures adv n [] = Ok []
text_measures adv n (l ∷ ls) = before (on_line n (text_measure adv n l)) (text_measures adv (n + 1) ls)

abbrev pub file_measures : List FileLine → Result (List Measured) Located
file_measures [] = Err (at_line 1 NoMetric)
file_measures (l ∷ ls) = onward (at_line 1) (advances_of l) (λ adv. text_measures adv 2 ls)
