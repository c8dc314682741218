-- The law over whole runs. Assumes nothing.
use Rattle.std.proofs.Common.{◌≡◌, ℕ, ◌+◌, ◌<◌, Bool, true, false, ltb, List, [], ◌∷◌, ◌++◌, length, get_or, take, drop, Some, Option, sym, refl, ap, ◌∙◌, subst, arith}
use Rattle.places.specs.declared.parts.Line.{Line}
use Rattle.places.specs.Permitted.{Wanted}
use Rattle.rules.specs.declared.refusals.Refusal.{Refusal}
use Rattle.rules.specs.declared.refusals.Refusal.TheVariants.{NoParagraph, WidePanel, ListFull, NoPlace}
use Rattle.rules.specs.Refusals.{first}
use Rattle.rules.specs.declared.paragraphs.Paragraph.{Paragraph}
use Rattle.rules.specs.Account.{Size, Account, closed, full, between}
use Rattle.rules.specs.Words.{Apart, LeastAt, WordStep, word_joins, word_opens, word_wide, word_full, word_none, Words, all_set, stopped, one_set}
use Rattle.rules.specs.Runs.{Call, Answer, Event, Step, Run, start, next, flows, panels, flowed, stands, refused, open_refused, open_done, panel_refused, panel_none, panel_done, flow_refused, flow_done, end_refused, end_done}
use Rattle.rules.specs.Moments.{Mark, sets, does, word_marks, Plain, Trace, word, other, stood_at, stood}
use Rattle.rules.specs.Law.{StoodBest, Placeless, Homeless, Fate, stays, grows, is_ended, is_filled, RunsAreRight}
use Rattle.rules.proofs.Single.{same_some, alone}
use Rattle.rules.proofs.Traces.{word_para, words_traced, traced, trace_one, SetWord, trace_word, quiet_kept, counted, moment_of}

-- the moment of an event of a run
record Moment (z : Size) (earlier : List Event) (e : Event) : Type 0 where
  before : Account
  after : Account
  run : Run z earlier before
  step : Step z before e.call e.answer after

moment : {z : Size} (later : List Event) {earlier : List Event} {e : Event} {A : Account} → Run z (later ++ (e ∷ earlier)) A → Moment z earlier e
moment [] (next e r s) = record { before = _; after = _; run = r; step = s }
moment (x ∷ later) (next e r s) = moment later r

-- Panels

stands_best : {z : Size} {A B : Account} {o : Wanted} {x y : ℕ} → Step z A (panels o) (stands x y) B → StoodBest z A o x y
stands_best (panel_done p e r k b) = record { paragraph = p; is_open = e; best = b }

-- no early test answers with NoPlace
never : (p q r : Bool) → first ((p, NoParagraph) ∷ (q, WidePanel) ∷ (r, ListFull) ∷ []) ≡ Some NoPlace → ⊥
never true q r e = cc
never false true r e = cc
never false false true e = cc
never false false false e = cc

refused_same : {d e : Refusal} → refused d ≡ refused e → d ≡ e
refused_same h = cc

turned : {z : Size} {A B : Account} {o : Wanted} {a : Answer} → Step z A (panels o) a B → a ≡ refused NoPlace → Placeless z A o
turned {z} {A} (panel_refused {o = o} {e = e} h) q = absurd (never (closed A) (ltb (between A.para) o.form.wide) (full z A) (h ∙ ap Some (refused_same q)))
turned (panel_none p e r k n) q = record { paragraph = p; is_open = e; none = n }
turned (panel_done p e r k b) q = cc

word_listed : {z : Size} {p : Paragraph} {sp a : ℕ} {A B : Account} → WordStep z p sp A a B → B.placed ≡ A.placed
word_listed (word_joins l w j) = refl
word_listed (word_opens t w n f b) = refl

words_listed : {z : Size} {p : Paragraph} {sp : ℕ} {A B : Account} {ws : List ℕ} {n : ℕ} {o : Option Refusal} → Words z p sp A ws n o B → B.placed ≡ A.placed
words_listed all_set = refl
words_listed (stopped r) = refl
words_listed (one_set s w) = words_listed w ∙ word_listed s

step_listed : {z : Size} {A B : Account} {c : Call} {a : Answer} → Step z A c a B → B.placed ≡ stood_at c a A.placed
step_listed (open_refused h) = refl
step_listed (open_done h) = refl
step_listed (panel_refused h) = refl
step_listed (panel_none p e r k n) = refl
step_listed (panel_done p e r k b) = refl
step_listed (flow_refused h) = refl
step_listed (flow_done p e w) = words_listed w
step_listed (end_refused h) = refl
step_listed (end_done p e k) = refl

listed : {z : Size} {past : List Event} {A : Account} → Run z past A → A.placed ≡ stood past
listed start = refl
listed (next e r s) = step_listed s ∙ ap (stood_at e.call e.answer) (listed r)

-- Lines

-- a word that began a line
record Began (z : Size) (sp : ℕ) (B : Account) (a : ℕ) (l : Line) : Type 0 where
  paragraph : Paragraph
  is_open : B.para ≡ Some paragraph
  least : LeastAt z paragraph B a l.top
  apart : Apart z paragraph sp B a

began_by : {z : Size} {p : Paragraph} {sp a : ℕ} {ms : List Mark} {B C : Account} → Trace z ms B → B.para ≡ Some p → WordStep z p sp B a C → (l : Line) → C.current ≡ Some l → l.words ≡ 1 → Began z sp B a l
began_by t d (word_joins k w j) l e one = absurd (omega (arith, counted t k j.is_open, ap (λ x. x.words) (same_some refl e)))
began_by {z} {p} {a} {B} t d (word_opens y w n f b) l e one =
    record { paragraph = p; is_open = d; least = subst (λ r. LeastAt z p B a r) (ap (λ x. x.top) (same_some refl e)) b; apart = n }

began : {z : Size} {sp a : ℕ} {ms : List Mark} {B C : Account} → Trace z ms B → SetWord z sp B a C → (l : Line) → C.current ≡ Some l → l.words ≡ 1 → Began z sp B a l
began t s l e one = began_by t s.is_open s.step l e one

word_fate : {z : Size} {p : Paragraph} {sp a : ℕ} {B C : Account} → B.para ≡ Some p → WordStep z p sp B a C → (l : Line) → B.current ≡ Some l → Fate z B l C (sets sp a)
word_fate {sp} {a} d (word_joins k w j) l e = let x = same_some j.is_open e in grows refl (ap (λ y. y.top) x) (ap (λ y. y.used + sp + a) x)
word_fate {p} d (word_opens y w n f b) l e = is_filled (record { paragraph = p; is_open = d; narrow = λ v. n l (record { is_open = e; room = v }) })

call_fate : {z : Size} {B : Account} {c : Call} {a : Answer} {C : Account} → Plain c → Step z B c a C → (l : Line) → B.current ≡ Some l → Fate z B l C (does c a)
call_fate k (open_refused h) l e = stays e
call_fate k (open_done h) l e = stays e
call_fate k (panel_refused h) l e = stays e
call_fate k (panel_none p d r h n) l e = stays e
call_fate k (panel_done p d r h b) l e = stays e
call_fate k (flow_refused h) l e = stays e
call_fate k (flow_done p d w) l e = absurd k
call_fate k (end_refused h) l e = stays e
call_fate k (end_done p d h) l e = is_ended

fate : {z : Size} {ms : List Mark} {m : Mark} {B C : Account} → Trace z ms B → Trace z (m ∷ ms) C → (l : Line) → B.current ≡ Some l → Fate z B l C m
fate {z} {B} {C} t (word p sp a u d s) l e =
    let same = trace_one u t in
    word_fate (sym (ap (λ X. X.para) same) ∙ d) (subst (λ X. WordStep z p sp X a C) same s) l e
fate {z} {B} {C} t (other c a k u s) l e = call_fate k (subst (λ X. Step z X c a C) (trace_one u t) s) l e

-- Words without a row

words_homeless : {z : Size} {p : Paragraph} {sp : ℕ} {A B : Account} {ws : List ℕ} {n : ℕ} {o : Option Refusal} → A.para ≡ Some p → Words z p sp A ws n o B → o ≡ Some NoPlace → (n < length ws) × Homeless z sp B (get_or ws n 0)
words_homeless d all_set e = cc
words_homeless d (stopped (word_wide w)) e = cc
words_homeless d (stopped (word_full w n f)) e = cc
words_homeless {p} d (stopped (word_none w n f h)) e = (omega arith, record { paragraph = p; is_open = d; line = n; row = h })
words_homeless d (one_set s w) e = let x = words_homeless (word_para s ∙ d) w e in (omega arith, x.1)

step_homeless : {z : Size} {ms : List Mark} {sp from : ℕ} {A C : Account} {ws : List ℕ} {n : ℕ} → Trace z ms A → Step z A (flows ws sp from) (flowed n (Some NoPlace)) C → (B : Account) → Trace z (word_marks sp (take n (drop from ws)) ms) B → (n < length (drop from ws)) × Homeless z sp B (get_or (drop from ws) n 0)
step_homeless {z} {sp} {from} {ws} {n} t (flow_done p d w) B u =
    let x = words_homeless d w refl in
    (x.0, subst (λ X. Homeless z sp X (get_or (drop from ws) n 0)) (trace_one (words_traced d t w) u) x.1)

pub right : RunsAreRight
right z past A run = record {
  alone = λ other B r same. alone run r same;
  best = λ later earlier o x y e B r.
      let m = moment later (subst (λ l. Run z l A) e run) in
      subst (λ X. StoodBest z X o x y) (alone r m.run refl).1 (stands_best m.step);
  listed = listed run;
  none = λ later earlier o e B r.
      let m = moment later (subst (λ l. Run z l A) e run) in
      subst (λ X. Placeless z X o) (alone r m.run refl).1 (turned m.step refl);
  begun = λ later earlier sp a e B C t u l is one.
      let b = began t (trace_word t u) l is one in record { paragraph = b.paragraph; is_open = b.is_open; least = b.least };
  filled = λ later between earlier sp a sp' b e q B C D t u v l m is im one.
      let x = began u (trace_word u v) m im one in
      record { paragraph = x.paragraph; is_open = x.is_open; narrow = λ w. x.apart l (record { is_open = quiet_kept between q t u ∙ is; room = w }) };
  fated = λ later earlier m e B C t u l is. fate t u l is;
  homeless = λ later earlier ws sp from n e B t.
      let m = moment later (subst (λ l. Run z l A) e run) in
      step_homeless (traced m.run) m.step B t;
  traced = traced run;
  moment = λ later earlier m e. moment_of later (subst (λ l. Trace z l A) e (traced run));
  single = λ ms B C t u. trace_one t u;
}
