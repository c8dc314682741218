-- The moments of a run, word by word. Assumes nothing.
use Rattle.std.proofs.Common.{◌≡◌, ℕ, ◌≤◌, List, [], ◌∷◌, ◌++◌, take, Some, Option, sym, refl, ap, ◌∙◌, subst, arith}
use Rattle.places.specs.declared.parts.Line.{Line}
use Rattle.rules.specs.declared.refusals.Refusal.{Refusal}
use Rattle.rules.specs.declared.paragraphs.Paragraph.{Paragraph}
use Rattle.rules.specs.Account.{Size, Account}
use Rattle.rules.specs.Words.{WordStep, word_joins, word_opens, Words, all_set, stopped, one_set}
use Rattle.rules.specs.Runs.{Call, Answer, Event, Step, Run, start, next, opens, panels, ends, ended, open_refused, open_done, panel_refused, panel_none, panel_done, flow_refused, flow_done, end_refused, end_done}
use Rattle.rules.specs.Moments.{Mark, sets, does, word_marks, marks_of, marks, Plain, Trace, begin, word, other, Quiet}
use Rattle.rules.proofs.Single.{same_some, some_none, word_one, step_one}

-- a word leaves the paragraph open
pub word_para : {z : Size} {p : Paragraph} {sp a : ℕ} {A B : Account} → WordStep z p sp A a B → B.para ≡ A.para
word_para (word_joins l w j) = refl
word_para (word_opens t w n f b) = refl

pub words_traced : {z : Size} {p : Paragraph} {sp : ℕ} {ms : List Mark} {A B : Account} {ws : List ℕ} {n : ℕ} {o : Option Refusal} → A.para ≡ Some p → Trace z ms A → Words z p sp A ws n o B → Trace z (word_marks sp (take n ws) ms) B
words_traced e t all_set = t
words_traced e t (stopped r) = t
words_traced {p} {sp} e t (one_set {a = a} s w) = words_traced (word_para s ∙ e) (word p sp a t e s) w

step_traced : {z : Size} {ms : List Mark} {A B : Account} {c : Call} {a : Answer} → Trace z ms A → Step z A c a B → Trace z (marks_of c a ms) B
step_traced t (open_refused h) = other (opens _ _) _ tt t (open_refused h)
step_traced t (open_done h) = other (opens _ _) _ tt t (open_done h)
step_traced t (panel_refused h) = other (panels _) _ tt t (panel_refused h)
step_traced t (panel_none p e r k n) = other (panels _) _ tt t (panel_none p e r k n)
step_traced t (panel_done p e r k b) = other (panels _) _ tt t (panel_done p e r k b)
step_traced t (flow_refused h) = t
step_traced t (flow_done p e w) = words_traced e t w
step_traced t (end_refused h) = other (ends _) _ tt t (end_refused h)
step_traced t (end_done p e k) = other (ends _) _ tt t (end_done p e k)

pub traced : {z : Size} {past : List Event} {A : Account} → Run z past A → Trace z (marks past) A
traced start = begin
traced (next e r s) = step_traced (traced r) s

-- one moment has one account
words_same : {z : Size} {p p' : Paragraph} {sp a : ℕ} {A A' B B' : Account} → A ≡ A' → A.para ≡ Some p → A'.para ≡ Some p' → WordStep z p sp A a B → WordStep z p' sp A' a B' → B ≡ B'
words_same {z} {p} {p'} {sp} {a} {A} {A'} {B} same e e' s s' =
    let moved : WordStep z p sp A' a B = subst (λ X. WordStep z p sp X a B) same s in
    let ee : A'.para ≡ Some p = sym (ap (λ X. X.para) same) ∙ e in
    word_one (subst (λ q. WordStep z q sp A' a B) (same_some ee e') moved) s'

pub trace_one : {z : Size} {ms : List Mark} {A B : Account} → Trace z ms A → Trace z ms B → A ≡ B
trace_one begin begin = refl
trace_one (word p sp a t e s) (word p' _ _ u e' r) = words_same (trace_one t u) e e' s r
trace_one {z} {A} (other c a k t s) (other _ _ k' u r) = (step_one (subst (λ X. Step z X c a A) (trace_one t u) s) r).1

-- the word that was set between two moments
pub record SetWord (z : Size) (sp : ℕ) (B : Account) (a : ℕ) (C : Account) : Type 0 where
  pub paragraph : Paragraph
  pub is_open : B.para ≡ Some paragraph
  pub step : WordStep z paragraph sp B a C

pub trace_word : {z : Size} {sp a : ℕ} {ms : List Mark} {B C : Account} → Trace z ms B → Trace z (sets sp a ∷ ms) C → SetWord z sp B a C
trace_word {z} {sp} {a} {C} t (word p _ _ u e s) =
    let same = trace_one u t in
    record { paragraph = p; is_open = sym (ap (λ X. X.para) same) ∙ e; step = subst (λ X. WordStep z p sp X a C) same s }

-- only words and ends change the open line
line_kept : {z : Size} {A B : Account} {c : Call} {a : Answer} → Plain c → Step z A c a B → (a ≡ ended → ⊥) → B.current ≡ A.current
line_kept k (open_refused h) n = refl
line_kept k (open_done h) n = refl
line_kept k (panel_refused h) n = refl
line_kept k (panel_none p e r h m) n = refl
line_kept k (panel_done p e r h b) n = refl
line_kept k (flow_refused h) n = refl
line_kept k (flow_done p e w) n = absurd k
line_kept k (end_refused h) n = refl
line_kept k (end_done p e h) n = absurd (n refl)

pub quiet_kept : {z : Size} (between : List Mark) {ms : List Mark} {A B : Account} → Quiet between → Trace z ms A → Trace z (between ++ ms) B → B.current ≡ A.current
quiet_kept [] q t u = ap (λ X. X.current) (trace_one u t)
quiet_kept (sets _ _ ∷ between) q t u = absurd q
quiet_kept (does c a ∷ between) q t (other _ _ k u s) = line_kept k s q.0 ∙ quiet_kept between q.1 t u

-- an open line has a word
word_counted : {z : Size} {p : Paragraph} {sp a : ℕ} {A B : Account} → WordStep z p sp A a B → (l : Line) → B.current ≡ Some l → 1 ≤ l.words
word_counted (word_joins k w j) l e = omega (arith, ap (λ x. x.words) (same_some refl e))
word_counted (word_opens t w n f b) l e = omega (arith, ap (λ x. x.words) (same_some refl e))

call_counted : {z : Size} {A : Account} {c : Call} {a : Answer} {B : Account} → Plain c → Step z A c a B → (l : Line) → ((k : Line) → A.current ≡ Some k → 1 ≤ k.words) → B.current ≡ Some l → 1 ≤ l.words
call_counted k (open_refused q) l h e = h l e
call_counted k (open_done q) l h e = h l e
call_counted k (panel_refused q) l h e = h l e
call_counted k (panel_none p d r q n) l h e = h l e
call_counted k (panel_done p d r q b) l h e = h l e
call_counted k (flow_refused q) l h e = h l e
call_counted k (flow_done p d w) l h e = absurd k
call_counted k (end_refused q) l h e = h l e
call_counted k (end_done p d q) l h e = absurd (some_none e refl)

pub counted : {z : Size} {ms : List Mark} {A : Account} → Trace z ms A → (l : Line) → A.current ≡ Some l → 1 ≤ l.words
counted begin l e = absurd (some_none e refl)
counted (word p sp a t d s) l e = word_counted s l e
counted (other c a k t s) l e = call_counted k s l (counted t) e

pub moment_of : {z : Size} (later : List Mark) {earlier : List Mark} {m : Mark} {A : Account} → Trace z (later ++ (m ∷ earlier)) A → (B C : Account) × Trace z earlier B × Trace z (m ∷ earlier) C
moment_of [] (word p sp a t e s) = (_, _, t, word p sp a t e s)
moment_of [] (other c a k t s) = (_, _, t, other c a k t s)
moment_of (x ∷ later) (word p sp a t e s) = moment_of later t
moment_of (x ∷ later) (other c a k t s) = moment_of later t
