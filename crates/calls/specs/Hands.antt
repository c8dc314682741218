-- The slip that a script has in hand. Assumes nothing.
--     InHand o s         the slip o, if there is one, is that of the open paragraph of s
--     in_hand_prop o s   that holds in one way at most
use Rattle.std.specs.Prelude.{◌≡◌, Some, None, Option}
use Rattle.std.specs.Coded.{Coded-set, coded_option, coded_ℕ, Unit-prop}
use Rattle.sheet.specs.declared.sheet.Sheet.{Sheet}
use Rattle.sheet.specs.declared.slips.Slip.{Slip}
use Rattle.sheet.specs.Sheets.{open_number}

abbrev pub InHand : Option Slip → Sheet → Type 0
InHand (Some s) t = open_number t ≡ Some s.number
InHand None t = Unit {0}

-- it holds in one way at most
pub in_hand_prop : (o : Option Slip) (t : Sheet) → IsProp (InHand o t)
in_hand_prop (Some s) t = Coded-set (coded_option coded_ℕ) (open_number t) (Some s.number)
in_hand_prop None t = Unit-prop
