-- What the calls of a sheet promise. Assumes nothing.
--     Past z es s      the calls es, with these answers, came to s since it was new, and s holds their account
--     Lawful z es      the law holds of the calls es: each panel and each line was the best, and nothing else was answered
--     Tells c a s t    whatever calls came before: with the call c, answered by a, t holds the account of them all, and the law holds of them all
--     Shows r s        r is the open line as it is now, of the account of all calls before
--     Lists bs s       bs are the boxes of the account of all calls before, the oldest first
--     Ever s           with no premise: some calls, refused ones among them, led to s from a new sheet, and the law holds of them
use Rattle.std.specs.Prelude.{◌≡◌, ℕ, List, ◌∷◌, reverse, take, Option}
use Rattle.rules.specs.declared.boxes.BoxRecord.{BoxRecord}
use Rattle.rules.specs.declared.boxes.LineBox.{LineBox}
use Rattle.rules.specs.Account.{Size, Account, open_line}
use Rattle.rules.specs.Runs.{Call, Answer, Event, event, Run}
use Rattle.rules.specs.Law.{Right}
use Rattle.sheet.specs.declared.sheet.Sheet.{Sheet}
use Rattle.sheet.specs.View.{View, Kept, number_in}
use Rattle.sheet.specs.Stores.{view}

-- the sheet's fields
abbrev pub fields : Sheet → View
fields s = view s.store

-- the number of its open paragraph, if there is one
abbrev pub open_number : Sheet → Option ℕ
open_number s = number_in s.store.para

-- the boxes of its list, the oldest first
abbrev pub boxes_in : Sheet → List BoxRecord
boxes_in s = take s.store.used s.store.list.now

abbrev pub Past : Size → List Event → Sheet → Type 0
Past z past s = Kept z past (fields s)

abbrev pub Lawful : Size → List Event → Type 0
Lawful z past = (A : Account) → Run z past A → Right z past A

abbrev pub Tells : Call → Answer → Sheet → Sheet → Type 0
Tells c a s t = (z : Size) (past : List Event) → Past z past s → Past z (event c a ∷ past) t × Lawful z (event c a ∷ past)

abbrev pub Ever : Sheet → Type 0
Ever s = ∥ record { size : Size; past : List Event; kept : Past size past s; lawful : Lawful size past } ∥₁

abbrev pub Shows : Option LineBox → Sheet → Type 0
Shows r s = (z : Size) (past : List Event) (told : Past z past s) → r ≡ open_line z told.account

abbrev pub Lists : List BoxRecord → Sheet → Type 0
Lists bs s = (z : Size) (past : List Event) (told : Past z past s) → bs ≡ reverse told.account.boxes
