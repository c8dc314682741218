-- What a cursor over a file's lines has left. Assumes nothing.
--     line_of l              the line that the code holds as l
--     left s                 the lines from where the cursor s stands
use Rattle.std.specs.Prelude.{List}
use Rattle.lexer.specs.declared.lines.Line.{Line}
use Rattle.lexer.specs.declared.lines.Lines.{Lines}
use Rattle.lexer.specs.Lines.{FileLine, file_line, file_lines}

abbrev pub line_of : Line → FileLine
line_of l = file_line l.bytes.now l.ended

abbrev pub left : Lines → List FileLine
left s = file_lines s.rest.now
