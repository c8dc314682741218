-- Words one by one and several at once, up to a whole flow. Assumes nothing.
use Rattle.std.proofs.Common.{◌≡◌, ℕ, suc, ◌+◌, ◌-◌, ◌<◌, ◌≤◌, List, [], ◌∷◌, ◌++◌, length, get_or, drop, Some, None, Ok, Err, Option, sym, refl, ap, ◌∙◌, subst, arith}
use Rattle.std.proofs.lemmas.List.{drop_more, drop_all}
use Rattle.places.specs.declared.parts.Line.{Line}
use Rattle.places.specs.Bands.{room, band}
use Rattle.places.specs.Panels.{Placed}
use Rattle.places.proofs.Bands.{itself, within_room, band_in}
use Rattle.rows.specs.Told.{Tells}
use Rattle.rules.specs.declared.paragraphs.Paragraph.{Paragraph}
use Rattle.rules.specs.declared.refusals.Refusal.{Refusal}
use Rattle.rules.specs.declared.refusals.Refusal.TheVariants.{NoParagraph}
use Rattle.rules.specs.Account.{Size, Account}
use Rattle.rules.specs.Words.{WordStep, word_joins, Words, all_set, stopped, one_set, longer, with_word}
use Rattle.rules.specs.Runs.{flows, flowed, flow_refused, flow_done}
use Rattle.sheet.specs.View.{View}
use Rattle.sheet.specs.Told.{Told, WordTold, Flowing}
use Rattle.sheet.proofs.Moves.{move, stay}
use Rattle.sheet.proofs.Panels.{para_of}
use Rattle.sheet.proofs.Lines.{with_current, held_word}

pub flow_closed : (v : View) (ws : List ℕ) (sp from : ℕ) → v.para ≡ None → Told (flows ws sp from) (flowed 0 (Some NoParagraph)) v v
flow_closed v ws sp from t z past k =
    let p : k.account.para ≡ None = sym k.held.para_is ∙ t in
    stay k (flow_refused (simp p))

-- one part after the other
pub flow_then : (v s w : View) (p : Paragraph) (sp : ℕ) (ws : List ℕ) (i j k : ℕ) → i ≤ j → j ≤ k → Flowing p sp ws i j v s → Flowing p sp ws j k s w → Flowing p sp ws i k v w
flow_then v s w p sp ws i j k le on f g z A h =
    let x = f z A h in
    let y = g z x.0 x.1 in
    (y.0, y.1, λ n o C r. subst (λ m. Words z p sp A (drop i ws) m o C) (omega arith) (x.2 ((k - j) + n) o C (y.2 n o C r)))

pub flow_one : (v w : View) (p : Paragraph) (sp a : ℕ) (ws : List ℕ) (i : ℕ) → i < length ws → a ≡ get_or ws i 0 → WordTold p sp a (Ok tt) v w → Flowing p sp ws i (i + 1) v w
flow_one v w p sp a ws i lt is g z A h =
    let y = g z A h in (
      y.0,
      y.2,
      λ n o C r.
          let all : Words z p sp A (get_or ws i 0 ∷ drop (i + 1) ws) (suc n) o C = subst (λ b. Words z p sp A (b ∷ drop (i + 1) ws) (suc n) o C) is (one_set y.1 r) in
          let whole : Words z p sp A (drop i ws) (suc n) o C = subst (λ l. Words z p sp A l (suc n) o C) (sym (drop_more ws i 0 lt)) all in
          subst (λ m. Words z p sp A (drop i ws) m o C) (omega arith) whole,
    )

pub flow_ends : (v w : View) (p : Paragraph) (sp : ℕ) (ws : List ℕ) (from i : ℕ) → v.para ≡ Some p → length ws ≤ i → Flowing p sp ws from i v w → Told (flows ws sp from) (flowed (i - from) None) v w
flow_ends v w p sp ws from i t le f z past k =
    let x = f z k.account k.held in
    let rest : Words z p sp x.0 (drop i ws) 0 None x.0 = subst (λ l. Words z p sp x.0 l 0 None x.0) (sym (drop_all i ws le)) all_set in
    move k (flow_done p (para_of k.held t) (subst (λ m. Words z p sp k.account (drop from ws) m None x.0) (omega arith) (x.2 0 None x.0 rest))) x.1

pub flow_stops : (v s w : View) (p : Paragraph) (sp a : ℕ) (ws : List ℕ) (from i : ℕ) (e : Refusal) → v.para ≡ Some p → i < length ws → a ≡ get_or ws i 0 → Flowing p sp ws from i v s → WordTold p sp a (Err e) s w → Told (flows ws sp from) (flowed (i - from) (Some e)) v w
flow_stops v s w p sp a ws from i e t lt is f g z past k =
    let x = f z k.account k.held in
    let y = g z x.0 x.1 in
    let rest : Words z p sp x.0 (get_or ws i 0 ∷ drop (i + 1) ws) 0 (Some e) x.0 = subst (λ b. Words z p sp x.0 (b ∷ drop (i + 1) ws) 0 (Some e) x.0) is (stopped y.0) in
    let whole : Words z p sp x.0 (drop i ws) 0 (Some e) x.0 = subst (λ l. Words z p sp x.0 l 0 (Some e) x.0) (sym (drop_more ws i 0 lt)) rest in
    move k (flow_done p (para_of k.held t) (subst (λ m. Words z p sp k.account (drop from ws) m (Some e) x.0) (omega arith) (x.2 0 (Some e) x.0 whole))) y.1

-- Several words at once

-- how much words make of a line that has some already
abbrev pub lengthened : ℕ → List ℕ → ℕ → ℕ
lengthened sp [] used = used
lengthened sp (a ∷ ws) used = lengthened sp ws (used + sp + a)

abbrev pub grown : ℕ → List ℕ → Line → Line
grown sp [] l = l
grown sp (a ∷ ws) l = grown sp ws (longer sp a l)

pub grown_is : (sp : ℕ) (ws : List ℕ) (l : Line) → grown sp ws l ≡ record { top = l.top; used = lengthened sp ws l.used; words = l.words + length ws }
grown_is sp [] l = ap (λ n. record { top = l.top; used = l.used; words = n }) (omega arith)
grown_is sp (a ∷ ws) l = grown_is sp ws (longer sp a l) ∙ ap (λ n. record { top = l.top; used = lengthened sp ws (l.used + sp + a); words = n }) (omega arith)

lengthened_low : (sp : ℕ) (ws : List ℕ) (u : ℕ) → u ≤ lengthened sp ws u
lengthened_low sp [] u = omega arith
lengthened_low sp (a ∷ ws) u = let h = lengthened_low sp ws (u + sp + a) in omega arith

-- words that fit together are set one by one
join_all : {z : Size} (A : Account) (p : Paragraph) (sp t : ℕ) (ws : List ℕ) (l : Line) → l.top ≡ t → (1 ≤ length ws → lengthened sp ws l.used ≤ room (band p.margins A.placed t z.line))
    → (rest : List ℕ) (n : ℕ) (o : Option Refusal) (C : Account) → Words z p sp (with_word A (grown sp ws l)) rest n o C → Words z p sp (with_word A l) (ws ++ rest) (length ws + n) o C
join_all {z} A p sp t [] l on fits rest n o C w = subst (λ m. Words z p sp (with_word A l) rest m o C) (omega arith) w
join_all {z} A p sp t (a ∷ ws) l on fits rest n o C w =
    let b = band p.margins A.placed t z.line in
    let all : lengthened sp ws (l.used + sp + a) ≤ room b = fits (omega arith) in
    let low = lengthened_low sp ws (l.used + sp + a) in
    let narrow = within_room b p.margins (band_in b p.margins A.placed t z.line (itself b)) in
    let here : l.used + sp + a ≤ room b = omega arith in
    let step : WordStep z p sp (with_word A l) a (with_word A (longer sp a l)) = word_joins l (omega arith) (record { is_open = refl; room = subst (λ y. l.used + sp + a ≤ room (band p.margins A.placed y z.line)) (sym on) here }) in
    let more : Words z p sp (with_word A (longer sp a l)) (ws ++ rest) (length ws + n) o C = join_all A p sp t ws (longer sp a l) on (λ _. all) rest n o C w in
    subst (λ m. Words z p sp (with_word A l) (a ∷ (ws ++ rest)) m o C) (omega arith) (one_set step more)

pub stretched : (v : View) (p : Paragraph) (sp : ℕ) (ws taken : List ℕ) (i j : ℕ) (l : Line) → v.current ≡ Some l → drop i ws ≡ taken ++ drop j ws → j ≡ i + length taken
    → ((qs : List Placed) → Tells v.rows qs → 1 ≤ length taken → lengthened sp taken l.used ≤ room (band p.margins qs l.top v.line))
    → Flowing p sp ws i j v (with_current v (grown sp taken l))
stretched v p sp ws taken i j l is split count fits z A h =
    let g = grown sp taken l in
    let open_is : A.current ≡ Some l = sym h.current_is ∙ is in
    let A_is : with_word A l ≡ A = λ k. record { placed = A.placed; lines = A.lines; boxes = A.boxes; cursor = A.cursor; count = A.count; para = A.para; current = sym open_is k } in (
      with_word A g,
      held_word g h,
      λ n o C w.
          let all = join_all {z = z} A p sp l.top taken l refl (λ some. subst (λ m. lengthened sp taken l.used ≤ room (band p.margins A.placed l.top m)) h.sized.line_is (fits A.placed h.tells some)) (drop j ws) n o C w in
          let here : Words z p sp A (taken ++ drop j ws) (length taken + n) o C = subst (λ X. Words z p sp X (taken ++ drop j ws) (length taken + n) o C) A_is all in
          let there : Words z p sp A (drop i ws) (length taken + n) o C = subst (λ x. Words z p sp A x (length taken + n) o C) (sym split) here in
          subst (λ m. Words z p sp A (drop i ws) m o C) (omega arith) there,
    )
