-- Text after text, up to the first fault. Assumes nothing.
--     behind ms r   the texts of r behind the texts ms, or the fault of r
use Rattle.std.proofs.Common.{List, ◌++◌, Ok, Err, Result}
use Rattle.text_report.specs.Faults.{Located}
use Rattle.text_report.specs.declared.texts.Measured.{Measured}

abbrev pub behind : List Measured → Result (List Measured) Located → Result (List Measured) Located
behind ms (Ok more) = Ok (ms ++ more)
behind ms (Err x) = Err x
