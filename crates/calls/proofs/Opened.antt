-- A sheet with an open paragraph opens no other. Assumes nothing.
use Rattle.std.proofs.Common.{◌≡◌, ℕ, true, List, ◌∷◌, is_some, Some, None, Option, sym, refl, ap, ◌∙◌}
use mathlib.Core.HLevel.{⊥_prop}
use mathlib.Core.Logic.{∥∥₁_elim}
use Rattle.shapes.specs.declared.sides.Clear.{Clear}
use Rattle.places.specs.declared.parts.Span.{Span}
use Rattle.rules.specs.declared.paragraphs.Paragraph.{Paragraph}
use Rattle.rules.specs.declared.refusals.Refusal.TheVariants.{AlreadyOpen}
use Rattle.rules.specs.Account.{Size, Account, early_open}
use Rattle.rules.specs.Runs.{Event, event, Step, Run, next, opens, opened, open_done}
use Rattle.rules.proofs.Single.{some_none, alone}
use Rattle.sheet.specs.View.{View, Kept, Reached, number_in}

-- an open paragraph has a number
has_number : (o : Option Paragraph) (n : ℕ) → number_in o ≡ Some n → is_some o ≡ true
has_number (Some p) n h = refl
has_number None n h = absurd (some_none h refl)

step_shut : {z : Size} {A : Account} {m : Span} {c : Clear} {k : ℕ} {B : Account} → Step z A (opens m c) (opened k) B → is_some A.para ≡ true → ⊥
step_shut {z} {A} {m} (open_done h) t = let e : early_open z A m ≡ Some AlreadyOpen = simp t in some_none e h

-- the last call of a run, and the account before it
record Last (z : Size) (e : Event) (past : List Event) (B : Account) : Type 0 where
  before : Account
  run : Run z past before
  step : Step z before e.call e.answer B

last : {z : Size} {e : Event} {past : List Event} {B : Account} → Run z (e ∷ past) B → Last z e past B
last (next {A = A} e r s) = record { before = A; run = r; step = s }

last_shut : {z : Size} {past : List Event} {A B : Account} (m : Span) (c : Clear) (k : ℕ) → Run z past A → Last z (event (opens m c) (opened k)) past B → is_some A.para ≡ true → ⊥
last_shut m c k r l t = step_shut l.step (ap (λ X. is_some X.para) (alone r l.run refl).1 ∙ t)

-- whatever calls led to the fields v, with a paragraph open: an open that is done has no run
pub opens_no_other : (v w : View) (m : Span) (c : Clear) (n k : ℕ) → Reached v → number_in v.para ≡ Some n
    → ((z : Size) (past : List Event) → Kept z past v → Kept z (event (opens m c) (opened k) ∷ past) w) → ⊥
opens_no_other v w m c n k reached num told =
    ∥∥₁_elim reached ⊥_prop (λ x.
    let kept = x.kept in
    let is : is_some kept.account.para ≡ true = ap is_some (sym kept.held.para_is) ∙ has_number v.para n num in
    last_shut m c k kept.run (last (told x.size x.past kept).run) is)
