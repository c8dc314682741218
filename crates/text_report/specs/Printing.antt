-- What is printed of the texts of a file. Assumes nothing.
--     words_in ms     how many words the texts ms have together
--     total_of ms     how many texts there are, and how many words they have together
--     total_line t    the line that is printed of a total
--     listed ms       a line for each text, and the total
use Rattle.std.specs.Prelude.{ℕ, List, [], ◌∷◌, ◌++◌, length, codes, sum_by}
use Rattle.lexer.specs.Bytes.{line_end}
use Rattle.std.specs.List.{flat_map}
use Rattle.fault_lines.specs.Fields.{field}
use Rattle.text_report.specs.Measures.{text_line}
use Rattle.text_report.specs.declared.printing.Total.{Total}
use Rattle.text_report.specs.declared.texts.Measured.{Measured}

abbrev pub words_in : List Measured → ℕ
words_in ms = sum_by (λ m. m.words) ms

abbrev pub total_of : List Measured → Total
total_of ms = record { texts = length ms; words = words_in ms }

abbrev pub total_line : Total → List ℕ
total_line t = codes "total" ++ (field t.texts ++ (field t.words ++ (line_end ∷ [])))

abbrev pub listed : List Measured → List ℕ
listed ms = flat_map text_line ms ++ total_line (total_of ms)
