-- The computed answer is the answer, and the only one. Assumes nothing.
use Rattle.std.proofs.Common.{◌≡◌, ℕ, ◌+◌, ◌≤◌, Bool, true, false, cond, not, ltb, leb, List, [], ◌∷◌, drop, is_some, Some, None, Option, sym, refl, ap, subst, arith, ltb-false, ltb-true, leb-false, leb-true}
use Rattle.shapes.specs.declared.sides.Clear.{Clear}
use Rattle.shapes.specs.Form.{Real}
use Rattle.places.specs.declared.parts.Span.{Span}
use Rattle.places.specs.declared.parts.Line.{Line}
use Rattle.places.specs.declared.parts.Place.{Place}
use Rattle.places.specs.Bands.{room, band}
use Rattle.places.specs.Permitted.{Wanted}
use Rattle.places.specs.Tried.{best_place, least_row}
use Rattle.places.specs.Theorems.{Found, Sought}
use Rattle.places.proofs.Firsts.{bottoms_to, bottoms_from}
use Rattle.places.proofs.Tries.{trying_finds, trying_seeks}
use Rattle.rules.specs.declared.refusals.Refusal.{Refusal}
use Rattle.rules.specs.declared.refusals.Refusal.TheVariants.{NoParagraph, WrongSlip, WidePanel, WideWord, ListFull}
use Rattle.rules.specs.Refusals.{first}
use Rattle.rules.specs.declared.paragraphs.Paragraph.{Paragraph}
use Rattle.rules.specs.Account.{Size, rows_of, Account, scene, closed, full, between, numbered, start_row, early_open, early_panel, early_end, opening_top, with_open}
use Rattle.rules.specs.Words.{Apart, longer, with_word, WordStep, word_joins, word_opens, WordRefused, word_wide, word_full, word_none, Words, all_set, stopped, one_set}
use Rattle.rules.specs.Runs.{Call, Step, opens, flows, panels, ends, opened, open_refused, open_done, panel_refused, panel_none, panel_done, flow_refused, flow_done, end_refused, end_done}
use Rattle.rules.specs.Orderly.{Orderly}
use Rattle.rules.specs.Computed.{Reply, reply, unless, place_reply, panel_reply, Outcome, set, stops, line_at, new_line, on_line, word_outcome, Flow, continued, flow_words, flow_reply, end_reply, reply_to}
use Rattle.rules.specs.Theorems.{Sensible, OneAnswer, OpeningIsLeast}
use Rattle.rules.proofs.Single.{same_some, some_none, step_one}
use Rattle.rules.proofs.Orders.{orderly, settled, none_three}

-- the call has this reply
abbrev Replied : Size → Account → Call → Reply → Type 0
Replied z A c r = Step z A c r.answer r.after

-- no paragraph is open, and none was refused for that
none_open : (A : Account) → A.para ≡ None → closed A ≡ false → ⊥
none_open A e h = let k : closed A ≡ true = ap (λ o. not (is_some o)) e in cc

open_replied : (z : Size) (A : Account) (m : Span) (c : Clear) (o : Option Refusal) → early_open z A m ≡ o → Replied z A (opens m c) (unless o A (reply (opened (A.count + 1)) (with_open A m c)))
open_replied z A m c (Some e) h = open_refused h
open_replied z A m c None h = open_done h

-- Panels

place_replied : (z : Size) (A : Account) (o : Wanted) (p : Paragraph) → A.para ≡ Some p → Real o.form → early_panel z A o ≡ None → (r : Option Place) → Found (rows_of z) (scene A p) o r → Replied z A (panels o) (place_reply A o r)
place_replied z A o p e real h None none = panel_none p e real h none
place_replied z A o p e real h (Some q) best = panel_done p e real h best

panel_replied : (z : Size) (A : Account) (o : Wanted) → Orderly z A → Real o.form → early_panel z A o ≡ None → (q : Option Paragraph) → A.para ≡ q → Replied z A (panels o) (panel_reply z A o q)
panel_replied z A o w real h None e = absurd (none_open A e (none_three (closed A) (ltb (between A.para) o.form.wide) (full z A) NoParagraph WidePanel ListFull h).0)
panel_replied z A o w real h (Some p) e = place_replied z A o p e real h (best_place (rows_of z) (scene A p) o) (trying_finds (rows_of z) (scene A p) o (settled z A p w) real)

early_replied : (z : Size) (A : Account) (o : Wanted) → Orderly z A → Real o.form → (e : Option Refusal) → early_panel z A o ≡ e → Replied z A (panels o) (unless e A (panel_reply z A o A.para))
early_replied z A o w real (Some e) h = panel_refused h
early_replied z A o w real None h = panel_replied z A o w real h A.para refl

-- Words

abbrev Come : Size → Paragraph → ℕ → Account → ℕ → Outcome → Type 0
Come z p sp A a (set B) = WordStep z p sp A a B
Come z p sp A a (stops e) = WordRefused z p sp A a e

module _ (z : Size) (p : Paragraph) (sp : ℕ) (A : Account) (a : ℕ) (small : a ≤ room p.margins) where
  line_come : Apart z p sp A a → full z A ≡ false → (r : Option ℕ) → Sought (rows_of z) (scene A p) (start_row z A) a r → Come z p sp A a (line_at z p A a r)
  line_come n f None none = word_none small n f none
  line_come n f (Some t) least = word_opens t small n f least

  new_come : Apart z p sp A a → (b : Bool) → full z A ≡ b → Come z p sp A a (cond b (stops ListFull) (line_at z p A a (least_row (rows_of z) (scene A p) (start_row z A) a)))
  new_come n true f = word_full small n f
  new_come n false f = line_come n f (least_row (rows_of z) (scene A p) (start_row z A) a) (trying_seeks (rows_of z) (scene A p) (start_row z A) a)

  -- the open line l has no room for the word
  apart : (l : Line) → A.current ≡ Some l → leb (l.used + sp + a) (room (band p.margins A.placed l.top z.line)) ≡ false → Apart z p sp A a
  apart l e h k j =
      let same = same_some e j.is_open in
      let wide : l.used + sp + a ≤ room (band p.margins A.placed l.top z.line) = subst (λ n. n.used + sp + a ≤ room (band p.margins A.placed n.top z.line)) (sym same) j.room in
      let less = leb-false _ _ h in
      omega arith

  join_come : (l : Line) → A.current ≡ Some l → (b : Bool) → leb (l.used + sp + a) (room (band p.margins A.placed l.top z.line)) ≡ b → Come z p sp A a (cond b (set (with_word A (longer sp a l))) (new_line z p A a))
  join_come l e true h = word_joins l small (record { is_open = e; room = leb-true _ _ h })
  join_come l e false h = new_come (apart l e h) (full z A) refl

  line_met : (n : Option Line) → A.current ≡ n → Come z p sp A a (on_line z p sp A a n)
  line_met None e = new_come (λ l j. some_none j.is_open e) (full z A) refl
  line_met (Some l) e = join_come l e (leb (l.used + sp + a) (room (band p.margins A.placed l.top z.line))) refl

width_met : (z : Size) (p : Paragraph) (sp : ℕ) (A : Account) (a : ℕ) (b : Bool) → ltb (room p.margins) a ≡ b → Come z p sp A a (cond b (stops WideWord) (on_line z p sp A a A.current))
width_met z p sp A a true h = word_wide (ltb-true _ _ h)
width_met z p sp A a false h = line_met z p sp A a (ltb-false _ _ h) A.current refl

word_met : (z : Size) (p : Paragraph) (sp : ℕ) (A : Account) (a : ℕ) → Come z p sp A a (word_outcome z p sp A a)
word_met z p sp A a = width_met z p sp A a (ltb (room p.margins) a) refl

-- what a flow comes to
abbrev Flowed : Size → Paragraph → ℕ → Account → List ℕ → Flow → Type 0
Flowed z p sp A ws f = Words z p sp A ws f.count f.stop f.after

one_met : (z : Size) (p : Paragraph) (sp : ℕ) (A : Account) (a : ℕ) (ws : List ℕ) (out : Outcome) → Come z p sp A a out → ((B : Account) → Flowed z p sp B ws (flow_words z p sp ws B)) → Flowed z p sp A (a ∷ ws) (continued out A (λ B. flow_words z p sp ws B))
one_met z p sp A a ws (set B) s rest = one_set s (rest B)
one_met z p sp A a ws (stops e) r rest = stopped r

words_met : (z : Size) (p : Paragraph) (sp : ℕ) (ws : List ℕ) (A : Account) → Flowed z p sp A ws (flow_words z p sp ws A)
words_met z p sp [] A = all_set
words_met z p sp (a ∷ ws) A = one_met z p sp A a ws (word_outcome z p sp A a) (word_met z p sp A a) (λ B. words_met z p sp ws B)

flow_replied : (z : Size) (A : Account) (ws : List ℕ) (sp from : ℕ) (q : Option Paragraph) → A.para ≡ q → Replied z A (flows ws sp from) (flow_reply z A (drop from ws) sp q)
flow_replied z A ws sp from None e = flow_refused (ap (λ o. not (is_some o)) e)
flow_replied z A ws sp from (Some p) e = flow_done p e (words_met z p sp (drop from ws) A)

-- Ends

none_two : (p q : Bool) (d e : Refusal) → first ((p, d) ∷ (q, e) ∷ []) ≡ None → p ≡ false
none_two true q d e h = absurd (some_none refl h)
none_two false q d e h = refl

end_replied : (z : Size) (A : Account) (n : ℕ) → early_end A n ≡ None → (q : Option Paragraph) → A.para ≡ q → Replied z A (ends n) (end_reply z A q)
end_replied z A n h None e = absurd (none_open A e (none_two (closed A) (not (numbered A.para n)) NoParagraph WrongSlip h))
end_replied z A n h (Some p) e = end_done p e h

last_replied : (z : Size) (A : Account) (n : ℕ) (e : Option Refusal) → early_end A n ≡ e → Replied z A (ends n) (unless e A (end_reply z A A.para))
last_replied z A n (Some e) h = end_refused h
last_replied z A n None h = end_replied z A n h A.para refl

pub replied : (z : Size) (A : Account) → Orderly z A → (c : Call) → Sensible c → Replied z A c (reply_to z A c)
replied z A w (opens m c) s = open_replied z A m c (early_open z A m) refl
replied z A w (panels o) s = early_replied z A o w s (early_panel z A o) refl
replied z A w (flows ws sp from) s = flow_replied z A ws sp from A.para refl
replied z A w (ends n) s = last_replied z A n (early_end A n) refl

pub one_answer : OneAnswer
one_answer z past A r c s =
    let done = replied z A (orderly z past A r) c s in
    (done, λ a B step. step_one step done)

pub opening_is_least : OpeningIsLeast
opening_is_least A c = (
  omega arith,
  (λ q a e. bottoms_to c A.placed (opening_top A c) (omega arith) q a e),
  (λ t low clear. let b = bottoms_from c A.placed t clear in omega arith),
)
