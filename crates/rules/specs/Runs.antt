-- Calls on a sheet, their answers, and any sequence of them. Assumes nothing.
--     Call, Answer     what is asked of a sheet, and what it answers
--     Step z A c a B   on the account A the call c is answered with a, and B is the account after it
--     Run z es A       the calls es, the newest first, with their answers, came to a new sheet, and A is its account
use Rattle.std.specs.Prelude.{◌≡◌, ℕ, ◌+◌, true, List, [], ◌∷◌, drop, Some, None, Option}
use Rattle.shapes.specs.declared.sides.Clear.{Clear}
use Rattle.shapes.specs.Form.{Real}
use Rattle.places.specs.declared.parts.Span.{Span}
use Rattle.places.specs.Permitted.{Wanted, Permitted, Best}
use Rattle.rules.specs.declared.refusals.Refusal.{Refusal}
use Rattle.rules.specs.declared.refusals.Refusal.TheVariants.{NoParagraph, NoPlace}
use Rattle.rules.specs.declared.paragraphs.Paragraph.{Paragraph}
use Rattle.rules.specs.Account.{Size, rows_of, Account, fresh, scene, closed, early_open, early_panel, early_end, with_open, with_panel, with_end}
use Rattle.rules.specs.Words.{Words}

pub data Call : Type 0 where
  -- margins, and the sides to clear
  opens : Span → Clear → Call
  -- the advances of a text's words, the space's, and the number of the first word to set
  flows : List ℕ → ℕ → ℕ → Call
  panels : Wanted → Call
  -- a slip's number
  ends : ℕ → Call

pub data Answer : Type 0 where
  -- the paragraph's number
  opened : ℕ → Answer
  -- how many words were set, and the refusal of the next, if any
  flowed : ℕ → Option Refusal → Answer
  -- the panel's place
  stands : ℕ → ℕ → Answer
  ended : Answer
  refused : Refusal → Answer

pub data Step (z : Size) (A : Account) : Call → Answer → Account → Type 0 where
  open_refused : {m : Span} {c : Clear} {e : Refusal} → early_open z A m ≡ Some e → Step z A (opens m c) (refused e) A
  open_done : {m : Span} {c : Clear} → early_open z A m ≡ None → Step z A (opens m c) (opened (A.count + 1)) (with_open A m c)
  panel_refused : {o : Wanted} {e : Refusal} → early_panel z A o ≡ Some e → Step z A (panels o) (refused e) A
  panel_none : {o : Wanted} (p : Paragraph) → A.para ≡ Some p → Real o.form → early_panel z A o ≡ None → ((x y : ℕ) → Permitted (rows_of z) (scene A p) o x y → ⊥) → Step z A (panels o) (refused NoPlace) A
  panel_done : {o : Wanted} {x y : ℕ} (p : Paragraph) → A.para ≡ Some p → Real o.form → early_panel z A o ≡ None → Best (rows_of z) (scene A p) o x y → Step z A (panels o) (stands x y) (with_panel A o x y)
  flow_refused : {ws : List ℕ} {sp from : ℕ} → closed A ≡ true → Step z A (flows ws sp from) (flowed 0 (Some NoParagraph)) A
  flow_done : {ws : List ℕ} {sp from n : ℕ} {o : Option Refusal} {B : Account} (p : Paragraph) → A.para ≡ Some p → Words z p sp A (drop from ws) n o B → Step z A (flows ws sp from) (flowed n o) B
  end_refused : {n : ℕ} {e : Refusal} → early_end A n ≡ Some e → Step z A (ends n) (refused e) A
  end_done : {n : ℕ} (p : Paragraph) → A.para ≡ Some p → early_end A n ≡ None → Step z A (ends n) ended (with_end z A p)

pub record Event : Type 0 where
  pub call : Call
  pub answer : Answer

abbrev pub event : Call → Answer → Event
event c a = record { call = c; answer = a }

pub data Run (z : Size) : List Event → Account → Type 0 where
  start : Run z [] fresh
  next : {es : List Event} {A B : Account} (e : Event) → Run z es A → Step z A e.call e.answer B → Run z (e ∷ es) B

abbrev pub calls : List Event → List Call
calls [] = []
calls (e ∷ es) = e.call ∷ calls es
