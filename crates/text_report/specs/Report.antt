-- The report of a file. Assumes nothing.
--     told r           what is printed of what the lines of a file measure to: the texts and their total, or the fault alone
--     report_of file   the report of the file
use Rattle.std.specs.Prelude.{ℕ, List, Ok, Err, Result}
use Rattle.lexer.specs.Lines.{file_lines}
use Rattle.text_report.specs.Faults.{fault_line, Located}
use Rattle.text_report.specs.Printing.{listed}
use Rattle.text_report.specs.Reading.{file_measures}
use Rattle.text_report.specs.declared.texts.Measured.{Measured}

abbrev pub told : Result (List Measured) Located → List ℕ
told (Ok ms) = listed ms
told (Err x) = fault_line x

abbrev pub report_of : List ℕ → List ℕ
report_of file = told (file_measures (file_lines file))
