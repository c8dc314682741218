-- What is proved of the rules, beside the law over runs. Assumes nothing.
--     Sensible c       a panel call has a shape
--     RunsAreOrderly   every account of a run is orderly
--     OneAnswer        a call on the account of a run has an answer, and one only: the computed one
--     OpeningIsLeast   a paragraph's top is the least row from the cursor on that is clear of the cleared panels
use Rattle.std.specs.Prelude.{◌≡◌, ℕ, ◌≤◌, true, List}
use Rattle.shapes.specs.declared.sides.Clear.{Clear}
use Rattle.shapes.specs.Form.{Real, clears}
use Rattle.places.specs.Panels.{Placed, Among, bottom}
use Rattle.rules.specs.Account.{Size, Account, opening_top}
use Rattle.rules.specs.Runs.{Call, Answer, Event, Step, Run, opens, flows, panels, ends}
use Rattle.rules.specs.Orderly.{Orderly}
use Rattle.rules.specs.Computed.{reply_to}

abbrev pub Sensible : Call → Type 0
Sensible (panels o) = Real o.form
Sensible (opens m c) = Unit {0}
Sensible (flows ws sp from) = Unit {0}
Sensible (ends n) = Unit {0}

abbrev pub RunsAreOrderly : Type 0
RunsAreOrderly = (z : Size) (past : List Event) (A : Account) → Run z past A → Orderly z A

abbrev pub OneAnswer : Type 0
OneAnswer = (z : Size) (past : List Event) (A : Account) → Run z past A → (c : Call) → Sensible c
    → Step z A c (reply_to z A c).answer (reply_to z A c).after
    × ((a : Answer) (B : Account) → Step z A c a B → (a ≡ (reply_to z A c).answer) × (B ≡ (reply_to z A c).after))

-- row t is clear of the panels that c clears
abbrev pub ClearOf : Clear → List Placed → ℕ → Type 0
ClearOf c qs t = (q : Placed) → Among q qs → clears c q.side ≡ true → bottom q ≤ t

abbrev pub OpeningIsLeast : Type 0
OpeningIsLeast = (A : Account) (c : Clear)
    → (A.cursor ≤ opening_top A c) × ClearOf c A.placed (opening_top A c)
    × ((t : ℕ) → A.cursor ≤ t → ClearOf c A.placed t → opening_top A c ≤ t)
