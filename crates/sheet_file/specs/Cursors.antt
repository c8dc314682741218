-- What a cursor over the lines of a file has ahead of it. Assumes nothing.
--     ahead s        the lines that are still to be read
--     number s       the number of the first of them, counted from 1
--     Moves s r t    r is the first line ahead of s, and t has those behind it ahead; where there is none, r is the fault
--                    that the file stops early
use Rattle.std.specs.Prelude.{◌≡◌, ℕ, ◌+◌, List, [], ◌∷◌, Ok, Err, Result}
use Rattle.fault_lines.specs.Locations.{at_line}
use Rattle.lexer.specs.declared.lines.Line.{Line}
use Rattle.lexer.specs.Lines.{FileLine}
use Rattle.lexer.specs.LinesLeft.{line_of, left}
use Rattle.items.specs.declared.faults.FileFault.TheVariants.{Extent}
use Rattle.items.specs.Faults.{Located}
use Rattle.sheet_file.specs.declared.cursors.Cursor.{Cursor}

abbrev pub ahead : Cursor → List FileLine
ahead s = left s.lines

abbrev pub number : Cursor → ℕ
number s = s.read + 1

abbrev pub Moves : Cursor → Result Line Located → Cursor → Type 0
Moves s (Ok l) t = (ahead s ≡ line_of l ∷ ahead t) × (number t ≡ number s + 1)
Moves s (Err x) t = (ahead s ≡ []) × (x ≡ at_line (number s) Extent)
