-- What becomes of a call that a line asks for. Assumes nothing.
--     judged a        the fault that the answer a is, if it refuses anything
--     Asked x r s t   where x is a call: it led from s to t, and r tells whether it was refused;
--                     where x is a fault: r is that fault, and no call was made
use Rattle.std.specs.Prelude.{◌≡◌, Some, None, Ok, Err, Result}
use Rattle.rules.specs.Runs.{Call, Answer, opened, flowed, stands, ended, refused}
use Rattle.sheet.specs.declared.sheet.Sheet.{Sheet}
use Rattle.sheet.specs.Sheets.{fields, Tells}
use Rattle.items.specs.declared.faults.FileFault.{FileFault}
use Rattle.items.specs.declared.faults.FileFault.TheVariants.{Refused}
use Rattle.items.specs.Faults.{setback}

abbrev pub judged : Answer → Result (Unit {0}) FileFault
judged (opened n) = Ok tt
judged (flowed n None) = Ok tt
judged (flowed n (Some e)) = Err (Refused (setback e n))
judged (stands x y) = Ok tt
judged ended = Ok tt
judged (refused e) = Err (Refused (setback e 0))

abbrev pub Asked : Result Call FileFault → Result (Unit {0}) FileFault → Sheet → Sheet → Type 0
Asked (Ok c) r s t = (a : Answer) × Tells c a s t × (r ≡ judged a)
Asked (Err f) r s t = (r ≡ Err f) × (fields t ≡ fields s)
