-- Which byte each mark of the code is. Assumes nothing.
--     code m   the byte of the mark m
use Rattle.std.specs.Prelude.{ℕ}
use Rattle.lexer.specs.declared.marks.Mark.{Mark}
use Rattle.lexer.specs.declared.marks.Mark.TheVariants.{Space, LineEnd}
use Rattle.lexer.specs.Bytes.{space, line_end}

abbrev pub code : Mark → ℕ
code Space = space
code LineEnd = line_end
