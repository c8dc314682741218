-- A call has one answer and leads to one account, so that the calls alone decide. Assumes nothing.
use Rattle.std.proofs.Common.{◌≡◌, ℕ, suc, true, not, List, ◌∷◌, drop, is_some, Some, None, Option, refl, ap, subst, ap₂, subst₂, arith}
use Rattle.std.proofs.lemmas.Bool.{both_ways}
use Rattle.places.specs.Permitted.{Wanted, Best}
use Rattle.places.proofs.Nearest.{one_best}
use Rattle.places.proofs.Tries.{one_least}
use Rattle.rules.specs.declared.refusals.Refusal.{Refusal}
use Rattle.rules.specs.declared.paragraphs.Paragraph.{Paragraph}
use Rattle.rules.specs.Account.{Size, rows_of, Account, scene, closed, with_panel, with_end}
use Rattle.rules.specs.Words.{longer, with_word, with_line, WordStep, word_joins, word_opens, WordRefused, word_wide, word_full, word_none, Words, all_set, stopped, one_set}
use Rattle.rules.specs.Runs.{Call, Answer, Event, Step, Run, start, next, calls, flowed, stands, refused, open_refused, open_done, panel_refused, panel_none, panel_done, flow_refused, flow_done, end_refused, end_done}

-- two values of one option
pub same_some : {A : Type 0} {o : Option A} {a b : A} → o ≡ Some a → o ≡ Some b → a ≡ b
same_some p q = cc

pub some_none : {A : Type 0} {o : Option A} {a : A} → o ≡ Some a → o ≡ None → ⊥
some_none p q = cc

-- a paragraph that is open is not closed
pub not_closed : (A : Account) {p : Paragraph} → A.para ≡ Some p → closed A ≡ true → ⊥
not_closed A e c = both_ways _ (ap (λ o. not (is_some o)) e) c

-- Words

pub word_one : {z : Size} {p : Paragraph} {sp a : ℕ} {A B C : Account} → WordStep z p sp A a B → WordStep z p sp A a C → B ≡ C
word_one {sp} {a} {A} (word_joins l w j) (word_joins m v k) = ap (λ x. with_word A (longer sp a x)) (same_some j.is_open k.is_open)
word_one (word_joins l w j) (word_opens t v n f b) = absurd (n l j)
word_one (word_opens t v n f b) (word_joins l w j) = absurd (n l j)
word_one {z} {p} {a} {A} (word_opens t w n f b) (word_opens t' v m g c) = ap (λ x. with_line z p A a x) (one_least _ _ _ _ _ _ b c)

refused_one : {z : Size} {p : Paragraph} {sp a : ℕ} {A : Account} {e e' : Refusal} → WordRefused z p sp A a e → WordRefused z p sp A a e' → e ≡ e'
refused_one (word_wide w) (word_wide v) = refl
refused_one (word_wide w) (word_full v n f) = absurd (omega arith)
refused_one (word_wide w) (word_none v n f m) = absurd (omega arith)
refused_one (word_full w n f) (word_wide v) = absurd (omega arith)
refused_one (word_full w n f) (word_full v m g) = refl
refused_one (word_full w n f) (word_none v m g h) = absurd (both_ways _ g f)
refused_one (word_none w n f h) (word_wide v) = absurd (omega arith)
refused_one (word_none w n f h) (word_full v m g) = absurd (both_ways _ f g)
refused_one (word_none w n f h) (word_none v m g k) = refl

set_refused : {z : Size} {p : Paragraph} {sp a : ℕ} {A B : Account} {e : Refusal} → WordStep z p sp A a B → WordRefused z p sp A a e → ⊥
set_refused (word_joins l w j) (word_wide v) = omega arith
set_refused (word_joins l w j) (word_full v n f) = n l j
set_refused (word_joins l w j) (word_none v n f h) = n l j
set_refused (word_opens t w n f b) (word_wide v) = omega arith
set_refused (word_opens t w n f b) (word_full v m g) = both_ways _ f g
set_refused (word_opens t w n f b) (word_none v m g h) = h t b.lies

record Same (n n' : ℕ) (o o' : Option Refusal) (B B' : Account) : Type 0 where
  count : n ≡ n'
  stop : o ≡ o'
  end : B ≡ B'

words_one : {z : Size} {p : Paragraph} {sp : ℕ} {A B B' : Account} {ws : List ℕ} {n n' : ℕ} {o o' : Option Refusal} → Words z p sp A ws n o B → Words z p sp A ws n' o' B' → Same n n' o o' B B'
words_one all_set all_set = record { count = refl; stop = refl; end = refl }
words_one (stopped r) (stopped s) = record { count = refl; stop = ap Some (refused_one r s); end = refl }
words_one (stopped r) (one_set s w) = absurd (set_refused s r)
words_one (one_set s w) (stopped r) = absurd (set_refused s r)
words_one {z} {p} {sp} {B'} {n'} {o'} (one_set s w) (one_set {ws = ws} {n = m} s' w') =
    let e = word_one s' s in
    let x = words_one w (subst (λ X. Words z p sp X ws m o' B') e w') in
    record { count = ap suc x.count; stop = x.stop; end = x.end }

-- Calls

best_same : (z : Size) (A : Account) {o : Wanted} {x y x' y' : ℕ} {p p' : Paragraph} → A.para ≡ Some p → A.para ≡ Some p' → Best (rows_of z) (scene A p) o x y → Best (rows_of z) (scene A p') o x' y' → (x ≡ x') × (y ≡ y')
best_same z A {o} {x} {y} e e' b c = one_best _ _ _ _ _ _ _ (subst (λ q. Best (rows_of z) (scene A q) o x y) (same_some e e') b) c

pub step_one : {z : Size} {A : Account} {c : Call} {a a' : Answer} {B B' : Account} → Step z A c a B → Step z A c a' B' → (a ≡ a') × (B ≡ B')
step_one (open_refused h) (open_refused k) = (ap refused (same_some h k), refl)
step_one (open_refused h) (open_done k) = absurd (some_none h k)
step_one (open_done h) (open_refused k) = absurd (some_none k h)
step_one (open_done h) (open_done k) = (refl, refl)
step_one (panel_refused h) (panel_refused k) = (ap refused (same_some h k), refl)
step_one (panel_refused h) (panel_none p e r k n) = absurd (some_none h k)
step_one (panel_refused h) (panel_done p e r k b) = absurd (some_none h k)
step_one (panel_none p e r k n) (panel_refused h) = absurd (some_none h k)
step_one (panel_none p e r k n) (panel_none p' e' r' k' n') = (refl, refl)
step_one {z} {A} (panel_none {o = o} p e r k n) (panel_done {x = x} {y = y} p' e' r' k' b) = absurd (subst (λ q. ((x y : ℕ) → Best (rows_of z) (scene A q) o x y → ⊥)) (same_some e e') (λ x y c. n x y c.permitted) x y b)
step_one (panel_done p e r k b) (panel_refused h) = absurd (some_none h k)
step_one {z} {A} (panel_done {o = o} {x = x} {y = y} p e r k b) (panel_none p' e' r' k' n) = absurd (subst (λ q. ((x y : ℕ) → Best (rows_of z) (scene A q) o x y → ⊥)) (same_some e' e) (λ x y c. n x y c.permitted) x y b)
step_one {z} {A} (panel_done {o = o} p e r k b) (panel_done p' e' r' k' c) = let s = best_same z A e e' b c in (ap₂ stands s.0 s.1, ap₂ (with_panel A o) s.0 s.1)
step_one (flow_refused h) (flow_refused k) = (refl, refl)
step_one {A} (flow_refused h) (flow_done p e w) = absurd (not_closed A e h)
step_one {A} (flow_done p e w) (flow_refused h) = absurd (not_closed A e h)
step_one {z} {A} (flow_done {ws = ws} {sp = sp} {from = from} {n = n} {o = o} {B = B} p e w) (flow_done p' e' v) =
    let x = words_one (subst (λ q. Words z q sp A (drop from ws) n o B) (same_some e e') w) v in (ap₂ flowed x.count x.stop, x.end)
step_one (end_refused h) (end_refused k) = (ap refused (same_some h k), refl)
step_one (end_refused h) (end_done p e k) = absurd (some_none h k)
step_one (end_done p e k) (end_refused h) = absurd (some_none h k)
step_one {z} {A} (end_done p e h) (end_done p' e' k) = (refl, ap (with_end z A) (same_some e e'))

-- Runs

cons_one : {z : Size} {A A' B B' : Account} (e e' : Event) {es es' : List Event} → (es' ≡ es) × (A' ≡ A) → e'.call ≡ e.call → Step z A e.call e.answer B → Step z A' e'.call e'.answer B' → (e' ∷ es' ≡ e ∷ es) × (B' ≡ B)
cons_one {z} {A} {A'} {B} {B'} e e' same called s s' =
    let moved : Step z A e.call e'.answer B' = subst₂ (λ X c. Step z X c e'.answer B') same.1 called s' in
    let one = step_one moved s in
    let ee : e' ≡ e = λ i. record { call = called i; answer = one.0 i } in
    (ap₂ (λ x l. x ∷ l) ee same.0, one.1)

pub alone : {z : Size} {past other : List Event} {A B : Account} → Run z past A → Run z other B → calls other ≡ calls past → (other ≡ past) × (B ≡ A)
alone start start h = (refl, refl)
alone start (next e r s) h = cc
alone (next e r s) start h = cc
alone (next e r s) (next e' r' s') h = cons_one e e' (alone r r' (cc)) (cc) s s'
