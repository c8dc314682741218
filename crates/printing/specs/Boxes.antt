-- What is printed of the boxes of a sheet, one line each. Assumes nothing.
--     box_line b     the line of a box
--     total_line t   the line of the totals
--     printed bs     the lines of all boxes of the list bs, in its order, and then the line of their totals
use Rattle.std.specs.Prelude.{ℕ, List, [], ◌∷◌, ◌++◌}
use Rattle.std.specs.List.{flat_map}
use Rattle.lexer.specs.Bytes.{line_end}
use Rattle.rules.specs.Boxes.{totals_of}
use Rattle.rules.specs.Printed.{box_words, total_words}
use Rattle.rules.specs.declared.boxes.BoxRecord.{BoxRecord}
use Rattle.rules.specs.declared.boxes.Totals.{Totals}

abbrev pub box_line : BoxRecord → List ℕ
box_line b = box_words b ++ (line_end ∷ [])

abbrev pub total_line : Totals → List ℕ
total_line t = total_words t ++ (line_end ∷ [])

abbrev pub printed : List BoxRecord → List ℕ
printed bs = flat_map box_line bs ++ total_line (totals_of bs)
