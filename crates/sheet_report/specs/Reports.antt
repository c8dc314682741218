-- What is printed of a sheet file. Assumes nothing.
--     line_of_fault x     what is told of the fault x
--     shown bs o          the boxes bs and what they come to, or the fault o alone
--     Reports file out    out is what is printed of the file: its calls were made on a new sheet, up to its first fault, the law
--                         over all calls holds of them, and out shows the boxes of their account or that fault
use Rattle.std.specs.Prelude.{◌≡◌, ℕ, List, Some, None, Option}
use Rattle.rules.specs.declared.boxes.BoxRecord.{BoxRecord}
use Rattle.fault_lines.specs.declared.tellings.FaultLine.{FaultLine}
use Rattle.fault_lines.specs.Tellings.{told, fault_line}
use Rattle.printing.specs.Boxes.{printed}
use Rattle.items.specs.Faults.{Located, layer_of, cause_of, place_of}
use Rattle.sheet_file.specs.Plans.{file_plan}
use Rattle.sheet_file.specs.Laid.{Laid}

abbrev pub line_of_fault : Located → FaultLine
line_of_fault x = told (layer_of x.fault) x.line (cause_of x.fault) (place_of x.fault)

abbrev pub shown : List BoxRecord → Option Located → List ℕ
shown bs None = printed bs
shown bs (Some x) = fault_line (line_of_fault x)

-- cells for the highest sheet, the places of the list, and records and cells for the longest text
abbrev pub most_cells : ℕ
most_cells = 8192

abbrev pub most_places : ℕ
most_places = 1024

abbrev pub most_words : ℕ
most_words = 4096

abbrev pub most_runs : ℕ
most_runs = 8192

pub record Reports (file out : List ℕ) : Type 0 where
  pub boxes : List BoxRecord
  pub fault : Option Located
  pub laid : Laid (file_plan file most_cells most_words most_runs most_places) boxes fault
  pub bytes : out ≡ shown boxes fault
