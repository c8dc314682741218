-- What one call more makes of a sheet, by what it makes of the sheet's fields. Assumes nothing.
use Rattle.std.proofs.Common.{List, ◌∷◌}
use mathlib.Core.Logic.{∥∥₁_map}
use Rattle.rules.specs.Account.{Size}
use Rattle.rules.specs.Runs.{Call, Answer, Event, event}
use Rattle.rules.proofs.Right.{right}
use Rattle.sheet.specs.declared.sheet.Sheet.{Sheet}
use Rattle.sheet.specs.View.{View, Kept, Reached}
use Rattle.sheet.specs.Told.{Told}
use Rattle.sheet.specs.Sheets.{Lawful, fields}
use Rattle.sheet.proofs.Moves.{onward}

-- the law holds of whatever led here
lawful : (z : Size) (past : List Event) → Lawful z past
lawful z past A run = right z past A run

module _ {c : Call} {a : Answer} {w : View} (s : Sheet) (told : Told c a (fields s) w) where
  pub reached : Reached w
  reached = onward c a s.reached told

  pub ever : ∥ record { size : Size; past : List Event; kept : Kept size past w; lawful : Lawful size past } ∥₁
  ever = ∥∥₁_map reached (λ x. record { size = x.size; past = x.past; kept = x.kept; lawful = lawful x.size x.past })

  pub tells : (z : Size) (past : List Event) → Kept z past (fields s) → Kept z (event c a ∷ past) w × Lawful z (event c a ∷ past)
  tells z past k = (told z past k, lawful z _)
