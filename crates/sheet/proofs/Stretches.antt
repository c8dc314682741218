-- A run of words, as one number of units and as words that join a line one by one. Assumes nothing.
use Rattle.std.proofs.Common.{◌≡◌, ℕ, suc, ◌+◌, ◌-◌, ◌*◌, ◌<◌, ◌≤◌, min, true, List, [], ◌∷◌, ◌++◌, map, length, get_or, take, drop, Some, None, sym, ap, ◌∙◌, subst, ap₂, ⊎_elim, mul-zero, mul-suc, arith, leb-true}
use mathlib.Core.List.{map-map}
use Rattle.std.proofs.lemmas.List.{length-map, length-take, length-drop, take-map, drop-map, get_or-map, get_or-take, get_or-drop, take-append-drop, drop-drop}
use Rattle.std.proofs.lemmas.Option.{slice_get-get_or, slice_get_past}
use Rattle.std.proofs.lemmas.Bool.{cases_lt}
use Rattle.std.specs.List.{slice_get}
use Rattle.segment_tree.specs.Joins.{total, fold_of}
use Rattle.segment_tree.specs.LongestRun.{Longest}
use Rattle.text.specs.declared.records.Word.{Word}
use Rattle.text.specs.declared.runs.Run.{Run}
use Rattle.text.specs.declared.runs.Room.{Room}
use Rattle.text.specs.declared.texts.Text.{Text}
use Rattle.text.specs.Run.{largest, no_run, longer, width_of, has_room}
use Rattle.text.specs.Measure.{FitAdvance, run_of, no_word}
use Rattle.text.specs.Text.{words_in, runs_in}
use Rattle.places.specs.declared.parts.Line.{Line}
use Rattle.rules.specs.declared.paragraphs.Paragraph.{Paragraph}
use Rattle.sheet.specs.View.{View}
use Rattle.sheet.specs.Told.{Flowing}
use Rattle.sheet.specs.Steps.{RoomLeft}
use Rattle.sheet.specs.Stores.{advances_in}
use Rattle.sheet.proofs.Lines.{with_current}
use Rattle.sheet.proofs.Flows.{lengthened, grown, grown_is, stretched}

-- each is an advance of a word
abbrev pub Advances : List ℕ → Type 0
Advances ws = (k : ℕ) → k < length ws → FitAdvance (get_or ws k 0)

abbrev one : ℕ → Run
one a = record { advance = a; count = 1 }

abbrev sum : List ℕ → ℕ
sum [] = 0
sum (a ∷ ws) = a + sum ws

same_run : (a b c d : ℕ) → a ≡ c → b ≡ d → ◌≡◌ {A = Run} (record { advance = a; count = b }) (record { advance = c; count = d })
same_run a b c d p q = cc

tail_fits : (a : ℕ) (ws : List ℕ) → Advances (a ∷ ws) → Advances ws
tail_fits a ws f k lt = f (suc k) (omega arith)

-- the sums of a run, each held at the largest number
total_is : (ws : List ℕ) → Advances ws → total no_run longer (map one ws) ≡ record { advance = min largest (sum ws); count = min largest (length ws) }
total_is [] f = same_run _ _ _ _ (omega arith) (omega arith)
total_is (a ∷ ws) f =
    let rest = total_is ws (tail_fits a ws f) in
    let fits = f 0 (omega arith) in
    let most = fits.1 in
    ap (longer (one a)) rest ∙ same_run _ _ _ _ (omega arith) (omega arith)

sum_most : (ws : List ℕ) → Advances ws → length ws ≤ sum ws
sum_most [] f = omega arith
sum_most (a ∷ ws) f = let h = sum_most ws (tail_fits a ws f) in let s = (f 0 (omega arith)).0 in omega arith

lengthened_is : (sp : ℕ) (a : ℕ) (ws : List ℕ) (u : ℕ) → lengthened sp (a ∷ ws) u ≡ u + sp + (a + sum ws + sp * length ws)
lengthened_is sp a [] u = let z : sp * 0 ≡ 0 = mul-zero sp in omega arith
lengthened_is sp a (b ∷ ws) u = let h = lengthened_is sp b ws (u + sp + a) in let m = mul-suc sp (length ws) in h ∙ (let e : u + sp + a + sp + (b + sum ws + sp * length ws) ≡ u + sp + (a + (b + sum ws) + sp * suc (length ws)) = omega arith in e)

-- what a run of words that is within some room makes of a line
pub record Ran (sp : ℕ) (ws : List ℕ) (r : Run) : Type 0 where
  pub count : r.count ≡ length ws
  pub few : r.count ≤ width_of r sp
  pub long : (u : ℕ) → lengthened sp ws u ≡ u + sp + width_of r sp

ran_some : (sp : ℕ) (a : ℕ) (ws : List ℕ) (r : Run) → Advances (a ∷ ws) → r ≡ total no_run longer (map one (a ∷ ws)) → r.advance < largest → Ran sp (a ∷ ws) r
ran_some sp a ws r f is lt =
    let e = is ∙ total_is (a ∷ ws) f in
    let adv : r.advance ≡ a + sum ws = let h = ap (λ x. x.advance) e in let g : r.advance ≡ a + sum ws = omega arith in g in
    let most = sum_most (a ∷ ws) f in
    let cnt : r.count ≡ suc (length ws) = let h = ap (λ x. x.count) e in let g : r.count ≡ suc (length ws) = omega arith in g in
    let wide : width_of r sp ≡ a + sum ws + sp * length ws = ap₂ (λ x y. x + sp * (y - 1)) adv cnt ∙ ap (λ n. a + sum ws + sp * n) (let g : suc (length ws) - 1 ≡ length ws = omega arith in g) in
    record {
      count = cnt;
      few = omega arith;
      long = λ u. lengthened_is sp a ws u ∙ ap (λ n. u + sp + n) (sym wide);
    }

pub ran : (sp : ℕ) (ws : List ℕ) (r : Run) → Advances ws → 0 < length ws → r ≡ total no_run longer (map one ws) → r.advance < largest → Ran sp ws r
ran sp [] r f some is lt = absurd (omega arith)
ran sp (a ∷ ws) r f some is lt = ran_some sp a ws r f is lt

-- The words of a text

runs_are : (t : Text) → runs_in t ≡ map one (advances_in t)
runs_are t = sym (map-map one (λ w. w.advance) (words_in t))

pub advances_fit : (t : Text) → Advances (advances_in t)
advances_fit t k lt =
    let n = t.runs.count in
    let long : length (advances_in t) ≡ length (words_in t) = length-map (words_in t) (λ w. w.advance) in
    let cut = length-take n t.words.now in
    let e : get_or (advances_in t) k 0 ≡ (get_or t.words.now k no_word).advance = get_or-map (λ w. w.advance) (words_in t) k no_word 0 (omega arith) ∙ ap (λ w. w.advance) (get_or-take n t.words.now k no_word (omega arith)) in
    subst FitAdvance (sym e) (t.wide k (omega arith))

-- the words from i up to j
abbrev pub taken : List ℕ → ℕ → ℕ → List ℕ
taken ws i j = take (j - i) (drop i ws)

pub taken_split : (ws : List ℕ) (i j : ℕ) → i ≤ j → drop i ws ≡ taken ws i j ++ drop j ws
taken_split ws i j le =
    let is : i + (j - i) ≡ j = omega arith in
    sym (take-append-drop (j - i) (drop i ws)) ∙ ap (λ l. taken ws i j ++ l) (drop-drop (j - i) i ws ∙ ap (λ n. drop n ws) is)

pub taken_length : (ws : List ℕ) (i j : ℕ) → i ≤ j → j ≤ length ws → j ≡ i + length (taken ws i j)
taken_length ws i j le in_list = let a = length-take (j - i) (drop i ws) in let b = length-drop i ws in omega arith

taken_fits : (ws : List ℕ) (i j : ℕ) → Advances ws → j ≤ length ws → Advances (taken ws i j)
taken_fits ws i j f in_list k lt =
    let a = length-take (j - i) (drop i ws) in
    let b = length-drop i ws in
    let e : get_or (taken ws i j) k 0 ≡ get_or ws (i + k) 0 = get_or-take (j - i) (drop i ws) k 0 (omega arith) ∙ get_or-drop i ws k 0 in
    subst FitAdvance (sym e) (f (i + k) (omega arith))

fold_is : (t : Text) (i j : ℕ) → fold_of no_run longer (runs_in t) i j ≡ total no_run longer (map one (taken (advances_in t) i j))
fold_is t i j = ap (total no_run longer) (ap (λ l. take (j - i) (drop i l)) (runs_are t) ∙ ap (take (j - i)) (drop-map one i (advances_in t)) ∙ take-map one (j - i) (drop i (advances_in t)))

-- the longest run of a text within some room
pub record Taken (t : Text) (sp room i j : ℕ) (r : Run) : Type 0 where
  pub in_list : j ≤ length (advances_in t)
  pub run : Ran sp (taken (advances_in t) i j) r
  pub fits : width_of r sp ≤ room

pub taken_run : (t : Text) (limit : Room) (i j : ℕ) (r : Run) → limit.width < largest → Longest no_run longer (λ x. has_room x limit) (runs_in t) i j → i < j → r ≡ fold_of no_run longer (runs_in t) i j → Taken t limit.space limit.width i j r
taken_run t limit i j r small longest lt is =
    let ws = advances_in t in
    let fine = longest.fine lt in
    let long : length (runs_in t) ≡ length ws = length-map (words_in t) run_of ∙ sym (length-map (words_in t) (λ w. w.advance)) in
    let in_list : j ≤ length ws = let a = fine.0 in let g : j ≤ length ws = omega arith in g in
    let fits : width_of r limit.space ≤ limit.width = leb-true _ _ (subst (λ x. has_room x limit ≡ true) (sym is) fine.1) in
    let few : r.advance < largest = omega arith in
    let n = taken_length ws i j (omega arith) in_list in
    record { in_list = in_list; run = ran limit.space (taken ws i j) r (taken_fits ws i j (advances_fit t) in_list) (omega arith) (is ∙ fold_is t i j) few; fits = fits }

-- the word of a text at some number
pub word_at : (t : Text) (i : ℕ) (w : Word) → Some w ≡ slice_get (words_in t) i → (i < length (advances_in t)) × (w.advance ≡ get_or (advances_in t) i 0)
word_at t i w is =
    let long : length (advances_in t) ≡ length (words_in t) = length-map (words_in t) (λ w. w.advance) in
    ⊎_elim
    (λ lt.
    let e : Some w ≡ Some (get_or (words_in t) i no_word) = is ∙ slice_get-get_or (words_in t) i no_word lt in
    let f : w ≡ get_or (words_in t) i no_word = cc in
    (omega arith, ap (λ x. x.advance) f ∙ sym (get_or-map (λ x. x.advance) (words_in t) i no_word 0 lt)))
    (λ ge. let e : Some w ≡ None = is ∙ slice_get_past (words_in t) i ge in let z : ◌≡◌ {A = ℕ} 0 1 = cc in absurd (omega arith))
    (cases_lt i (length (words_in t)))

-- The open line, with the words from i up to j joined to it

same_line : (t u u' n n' : ℕ) → u ≡ u' → n ≡ n' → ◌≡◌ {A = Line} (record { top = t; used = u; words = n }) (record { top = t; used = u'; words = n' })
same_line t u u' n n' p q = cc

pub stretches : (v : View) (p : Paragraph) (t : Text) (sp i j n u : ℕ) (l : Line) (r : Run) → sp ≡ t.space → v.current ≡ Some l → RoomLeft v p.margins sp l (Some n)
    → i < j → Taken t sp n i j r → u ≡ l.used + sp + width_of r sp → Flowing p t.space (advances_in t) i j v (with_current v (record { top = l.top; used = u; words = l.words + r.count }))
stretches v p t sp i j n u l r is_sp is left lt k is_u =
    let ws = advances_in t in
    let xs = taken ws i j in
    let long = k.run.long l.used in
    let line : grown sp xs l ≡ record { top = l.top; used = u; words = l.words + r.count } = grown_is sp xs l ∙ same_line _ _ _ _ _ (omega arith) (let n = k.run.count in omega arith) in
    let flows : Flowing p sp ws i j v (with_current v (grown sp xs l)) =
    stretched v p sp ws xs i j l is (taken_split ws i j (omega arith)) (taken_length ws i j (omega arith) k.in_list)
    (λ qs told some. omega (arith, left qs told, k.fits)) in
    subst (λ s. Flowing p s ws i j v (with_current v (record { top = l.top; used = u; words = l.words + r.count }))) is_sp (subst (λ x. Flowing p sp ws i j v (with_current v x)) line flows)

pub past_all : (t : Text) (i : ℕ) → length (words_in t) ≤ i → length (advances_in t) ≤ i
past_all t i le = let long = length-map (words_in t) (λ w. w.advance) in omega arith
