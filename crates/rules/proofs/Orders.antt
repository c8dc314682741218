-- Every account of a run is orderly. Assumes nothing.
use Rattle.std.proofs.Common.{◌≡◌, ℕ, ◌+◌, ◌<◌, ◌≤◌, Bool, true, false, not, ◌&&◌, ltb, leb, List, [], ◌∷◌, length, is_some, Some, None, Option, sym, refl, ap, ◌∙◌, subst, ⊎_elim, arith, ltb-true, leb-false, leb-true}
use Rattle.std.proofs.lemmas.Bool.{cases_lt, and_parts, not-false}
use Rattle.shapes.specs.Form.{Real}
use Rattle.places.specs.declared.parts.Span.{Span}
use Rattle.places.specs.declared.parts.Line.{Line}
use Rattle.places.specs.Panels.{Placed, Among, area_on}
use Rattle.places.specs.Bands.{room, band}
use Rattle.places.specs.Permitted.{Wanted, put, Keeps, Best}
use Rattle.places.specs.Lines.{Wide}
use Rattle.places.specs.Theorems.{Settled}
use Rattle.places.proofs.Bands.{itself, within_room, band_in, band_off, band_from}
use Rattle.places.proofs.Panels.{among_more, area_below}
use Rattle.rules.specs.declared.refusals.Refusal.{Refusal}
use Rattle.rules.specs.declared.refusals.Refusal.TheVariants.{NoParagraph, AlreadyOpen, BadMargins, WidePanel, ListFull, ManyParagraphs}
use Rattle.rules.specs.Refusals.{first}
use Rattle.rules.specs.declared.paragraphs.Paragraph.{Paragraph}
use Rattle.rules.specs.Account.{Size, rows_of, Account, fresh, scene, closed, reserved, full, between, most_paragraphs, early_open, early_panel, with_open, with_panel, with_end, shut_boxes}
use Rattle.rules.specs.Words.{longer, with_word, with_line, WordStep, word_joins, word_opens, Words, all_set, stopped, one_set}
use Rattle.rules.specs.Runs.{Call, Answer, Event, Step, Run, start, next, open_refused, open_done, panel_refused, panel_none, panel_done, flow_refused, flow_done, end_refused, end_done}
use Rattle.rules.specs.Orderly.{OnSheet, InMargins, InBand, Orderly}
use Rattle.rules.specs.Theorems.{RunsAreOrderly}
use Rattle.rules.proofs.Single.{same_some, some_none}
use Rattle.rules.proofs.Traces.{word_para}

-- where no refusal is found, every test was false
pub none_three : (p q r : Bool) (d e f : Refusal) → first ((p, d) ∷ (q, e) ∷ (r, f) ∷ []) ≡ None → (p ≡ false) × (q ≡ false) × (r ≡ false)
none_three true q r d e f h = absurd (some_none refl h)
none_three false true r d e f h = absurd (some_none refl h)
none_three false false true d e f h = absurd (some_none refl h)
none_three false false false d e f h = (refl, refl, refl)

-- a panel that begins below a line leaves its band
below_band : (m : Span) (qs : List Placed) (p : Placed) (t n : ℕ) → t + n ≤ p.y → room (band m qs t n) ≤ room (band m (p ∷ qs) t n)
below_band m qs p t n low =
    let c = band m qs t n in
    let h = itself c in
    within_room c (band m (p ∷ qs) t n)
    (band_from c m (p ∷ qs) t n (band_in c m qs t n h)
    (λ k l u. among_more (λ q. 0 < area_on q k → _) p qs
    (λ lt. absurd (let y = area_below p k lt in let x : ⊥ = omega arith in x))
    (λ q a. band_off c m qs t n h k l u q a)))

-- A paragraph opens

open_para : (z : Size) (A : Account) (m : Span) → early_open z A m ≡ None → (A.para ≡ None) × (A.count < most_paragraphs) × (m.from < m.to) × (m.to ≤ z.width)
open_para z A m h =
    let t = none_three (is_some A.para) (leb most_paragraphs A.count) (not (ltb m.from m.to && leb m.to z.width)) AlreadyOpen ManyParagraphs BadMargins h in
    let b = and_parts (ltb m.from m.to) (leb m.to z.width) (not-false _ t.2) in
    (none_open A.para t.0, leb-false _ _ t.1, ltb-true _ _ b.0, leb-true _ _ b.1)
  where
    none_open : (o : Option Paragraph) → is_some o ≡ false → o ≡ None
    none_open None h = refl
    none_open (Some p) h = cc

-- no line is open where no paragraph is
pub no_line : (z : Size) (A : Account) → Orderly z A → A.para ≡ None → (l : Line) → A.current ≡ Some l → ⊥
no_line z A w none l e = some_none (w.line l e).is_open none

orderly_open : (z : Size) (A : Account) (m : Span) (c : _) → Orderly z A → early_open z A m ≡ None → Orderly z (with_open A m c)
orderly_open z A m c w h =
    let t = open_para z A m h in
    record {
      panels = w.panels;
      paragraph = λ p e. subst (λ q. InMargins z (with_open A m c) q) (same_some refl e) (record { last = refl; some = t.2; right = t.3 });
      line = λ l e. absurd (no_line z A w t.0 l e);
      numbers = omega (arith, t.1);
      listed = w.listed;
    }

-- A panel stands

panel_early : (z : Size) (A : Account) (o : Wanted) → early_panel z A o ≡ None → full z A ≡ false
panel_early z A o h = (none_three (closed A) (ltb (between A.para) o.form.wide) (full z A) NoParagraph WidePanel ListFull h).2

not_full : (z : Size) (A : Account) → full z A ≡ false → length A.boxes + reserved A.current < z.places
not_full z A h = leb-false _ _ h

keeps_wide : (z : Size) (A : Account) (p : Paragraph) (o : Wanted) (x y : ℕ) (l : Line) → A.current ≡ Some l
    → Keeps (rows_of z) (scene A p) (put o x y) A.current → Wide (rows_of z) (scene A p) l.top l.used
    → l.used ≤ room (band p.margins (put o x y ∷ A.placed) l.top z.line)
keeps_wide z A p o x y l e keeps wide =
    let k : Keeps (rows_of z) (scene A p) (put o x y) (Some l) = subst (λ n. Keeps (rows_of z) (scene A p) (put o x y) n) e keeps in
    ⊎_elim
    (λ lt. k lt)
    (λ ge. let b = below_band p.margins A.placed (put o x y) l.top z.line ge in omega arith)
    (cases_lt y (l.top + z.line))

orderly_panel : (z : Size) (A : Account) (p : Paragraph) (o : Wanted) (x y : ℕ) → Orderly z A → A.para ≡ Some p → Real o.form → early_panel z A o ≡ None → Best (rows_of z) (scene A p) o x y → Orderly z (with_panel A o x y)
orderly_panel z A p o x y w d real h best =
    let b = best.permitted in
    let m = w.paragraph p d in
    let room-left = not_full z A (panel_early z A o h) in
    record {
      panels = among_more (OnSheet z) (put o x y) A.placed (record { real = real; right = (let r = m.right in let i = b.margins.1 in omega arith); low = b.high }) w.panels;
      paragraph = λ q e. let n = w.paragraph q e in record { last = n.last; some = n.some; right = n.right };
      line = λ l e.
          let n = w.line l e in
          let same = same_some d n.is_open in
          record {
            paragraph = p;
            is_open = d;
            listed = n.listed;
            some = n.some;
            low = n.low;
            wide = keeps_wide z A p o x y l e b.line_keeps (subst (λ q. Wide (rows_of z) (scene A q) l.top l.used) (sym same) n.wide);
          };
      numbers = w.numbers;
      listed = omega arith;
    }

-- A word is set

shut_length : (z : Size) (A : Account) (p : Paragraph) (n : Option Line) → length (shut_boxes z A p n) ≡ length A.boxes + reserved n
shut_length z A p (Some l) = omega arith
shut_length z A p None = omega arith

orderly_word : {z : Size} {p : Paragraph} {sp a : ℕ} {A B : Account} → Orderly z A → A.para ≡ Some p → WordStep z p sp A a B → Orderly z B
orderly_word {z} {p} {sp} {a} {A} w d (word_joins l v j) =
    let n = w.line l j.is_open in
    let here : InBand z (with_word A (longer sp a l)) (longer sp a l) = record { paragraph = p; is_open = d; listed = n.listed; some = omega (arith, n.some); low = n.low; wide = j.room } in
    record {
      panels = w.panels;
      paragraph = λ q e. let m = w.paragraph q e in record { last = m.last; some = m.some; right = m.right };
      line = λ k e. subst (λ x. InBand z (with_word A (longer sp a l)) x) (same_some refl e) here;
      numbers = w.numbers;
      listed = let r = ap reserved j.is_open in let s = w.listed in omega arith;
    }
orderly_word {z} {p} {sp} {a} {A} w d (word_opens t v n f b) =
    let l : Line = record { top = t; used = a; words = 1 } in
    let here : InBand z (with_line z p A a t) l = record { paragraph = p; is_open = d; listed = Among.here; some = omega arith; low = b.lies.high; wide = b.lies.wide } in
    record {
      panels = w.panels;
      paragraph = λ q e. let m = w.paragraph q e in record { last = m.last; some = m.some; right = m.right };
      line = λ k e. subst (λ x. InBand z (with_line z p A a t) x) (same_some refl e) here;
      numbers = w.numbers;
      listed = let r = shut_length z A p A.current in let s = not_full z A f in omega arith;
    }

orderly_words : {z : Size} {p : Paragraph} {sp : ℕ} {A B : Account} {ws : List ℕ} {n : ℕ} {o : Option Refusal} → Orderly z A → A.para ≡ Some p → Words z p sp A ws n o B → Orderly z B
orderly_words w d all_set = w
orderly_words w d (stopped r) = w
orderly_words w d (one_set s v) = orderly_words (orderly_word w d s) (word_para s ∙ d) v

-- A paragraph ends

orderly_end : (z : Size) (A : Account) (p : Paragraph) → Orderly z A → Orderly z (with_end z A p)
orderly_end z A p w = record {
  panels = w.panels;
  paragraph = λ q e. absurd (some_none e refl);
  line = λ l e. absurd (some_none e refl);
  numbers = w.numbers;
  listed = let r = shut_length z A p A.current in let s = w.listed in omega arith;
}

pub orderly_step : {z : Size} {A B : Account} {c : Call} {a : Answer} → Orderly z A → Step z A c a B → Orderly z B
orderly_step w (open_refused h) = w
orderly_step {z} {A} w (open_done {m = m} {c = c} h) = orderly_open z A m c w h
orderly_step w (panel_refused h) = w
orderly_step w (panel_none p e r k n) = w
orderly_step {z} {A} w (panel_done {o = o} {x = x} {y = y} p e r k b) = orderly_panel z A p o x y w e r k b
orderly_step w (flow_refused h) = w
orderly_step w (flow_done p e v) = orderly_words w e v
orderly_step w (end_refused h) = w
orderly_step {z} {A} w (end_done p e k) = orderly_end z A p w

orderly_fresh : (z : Size) → Orderly z fresh
orderly_fresh z = record {
  panels = λ q a. elim a [ ];
  paragraph = λ p e. absurd (some_none e refl);
  line = λ l e. absurd (some_none e refl);
  numbers = omega arith;
  listed = omega arith;
}

run_orderly : {z : Size} {past : List Event} {A : Account} → Run z past A → Orderly z A
run_orderly {z} start = orderly_fresh z
run_orderly (next e r s) = orderly_step (run_orderly r) s

pub orderly : RunsAreOrderly
orderly z past A r = run_orderly r

-- what a panel is judged against is settled
pub settled : (z : Size) (A : Account) (p : Paragraph) → Orderly z A → Settled (scene A p)
settled z A p w = record { some = λ q a. (w.panels q a).real.wide_some; listed = λ l e. (w.line l e).listed }
