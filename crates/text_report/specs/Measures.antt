-- What one text line measures to. Assumes nothing.
--     most_words, most_cells   how many records and cells the longest text may need
--     line_ending l            that the line l has its line end
--     refused text             why a text is refused: it is too long, or a byte may not stand in it
--     one_line adv text        the width of the text on one line, where adv gives the advance of each byte
--     measure_of adv n text    what the text on line n of the file measures to, where it is not refused
--     text_measure adv n l     the same of the line l, or why it is refused
--     text_line m              the line that is printed of it
use Rattle.std.specs.Prelude.{ℕ, ◌+◌, ◌-◌, ◌*◌, List, [], ◌∷◌, ◌++◌, length, Some, None, Ok, Err, codes, sum_by, Option, Result}
use Rattle.lexer.specs.Bytes.{line_end}
use Rattle.lexer.specs.Forms.{closing}
use Rattle.lexer.specs.Lines.{FileLine}
use Rattle.lexer.specs.declared.faults.Fault.{Fault}
use Rattle.text.specs.Fault.{or_else, long_fault, byte_fault}
use Rattle.text.specs.Measure.{measured, space_byte}
use Rattle.text.specs.declared.faults.TextFault.{TextFault}
use Rattle.words.specs.Words.{words_of}
use Rattle.fault_lines.specs.Fields.{field}
use Rattle.text_report.specs.Onward.{onward}
use Rattle.text_report.specs.declared.faults.FileFault.{FileFault}
use Rattle.text_report.specs.declared.faults.FileFault.TheVariants.{Form, Measuring}
use Rattle.text_report.specs.declared.texts.Measured.{Measured}

-- a text of 8,192 bytes has at most half as many words, and a tree has two cells for each of its leaves
abbrev pub most_words : ℕ
most_words = 4096

abbrev pub most_cells : ℕ
most_cells = 8192

abbrev pub line_ending : FileLine → Result (Unit {0}) Fault
line_ending l = closing l.ended l.bytes

abbrev pub unless : Option TextFault → Result (Unit {0}) TextFault
unless None = Ok tt
unless (Some f) = Err f

abbrev pub refused : List ℕ → Result (Unit {0}) TextFault
refused text = unless (or_else (long_fault text) (byte_fault text))

-- the advances of its words, and a space between each two of them
abbrev pub one_line : (ℕ → ℕ) → List ℕ → ℕ
one_line adv text = sum_by (λ w. w.advance) (measured adv text) + adv space_byte * (length (words_of text) - 1)

abbrev pub measure_of : (ℕ → ℕ) → ℕ → List ℕ → Measured
measure_of adv n text = record { line = n; words = length (words_of text); width = one_line adv text }

abbrev pub text_measure : (ℕ → ℕ) → ℕ → FileLine → Result Measured FileFault
text_measure adv n l =
    onward Form (line_ending l) (λ _. onward Measuring (refused l.bytes) (λ _. Ok (measure_of adv n l.bytes)))

abbrev pub text_line : Measured → List ℕ
text_line m = codes "text" ++ (field m.line ++ (field m.words ++ (field m.width ++ (line_end ∷ []))))
