-- How the reading of a file ends. Assumes nothing.
--     Tells want r   r is what was wanted of the file, or there was no memory
use Rattle.std.specs.Prelude.{◌≡◌, List, Ok, Err, vec_items, Result}
use Rattle.std.specs.Global.{Vec}
use Rattle.text_report.specs.Faults.{Located}
use Rattle.text_report.specs.declared.reading.Stop.{Stop}
use Rattle.text_report.specs.declared.reading.Stop.TheVariants.{Refused, Memory}
use Rattle.text_report.specs.declared.texts.Measured.{Measured}

abbrev pub Tells : Result (List Measured) Located → Result (Vec Measured) Stop → Type 0
Tells want (Ok ms) = want ≡ Ok (vec_items ms)
Tells want (Err (Refused x)) = want ≡ Err x
Tells want (Err (Memory _)) = Unit {0}
