-- What a panel takes of a row, and of a line's band. Assumes nothing.
use Rattle.std.proofs.Common.{◌≡◌, ℕ, zero, suc, ◌+◌, ◌-◌, ◌<◌, ◌≤◌, Bool, true, false, cond, ltb, leb, List, ◌∷◌, Some, sym, refl, ap, ◌∙◌, subst, ⊎_elim, arith}
use Rattle.std.proofs.lemmas.Bool.{ltb-true, lt-ltb, leb-true, le-leb, cases_lt, cases_eq}
use Rattle.shapes.specs.declared.sides.Side.{Side}
use Rattle.shapes.specs.declared.sides.Side.TheVariants.{Left, Right}
use Rattle.places.specs.declared.parts.Span.{Span}
use Rattle.places.specs.declared.parts.Line.{Line}
use Rattle.places.specs.Panels.{Placed, Among, here, there, bottom, area_on, box_on}
use Rattle.places.specs.Bands.{room, part, beside, band, widest}
use Rattle.places.specs.Permitted.{Rows, Scene, Keeps}
use Rattle.places.specs.Theorems.{Within, Off, OffAreas, OnePanelMore}
use Rattle.places.proofs.Bands.{itself, within_same, off_same, beside_in, beside_off, beside_from, band_in, band_off, band_from}

-- what holds of one more and of each of a list holds of each of the longer list
pub among_more : {A : Type 0} (P : A → Type 0) (a : A) (bs : List A) → P a → ((b : A) → Among b bs → P b) → (b : A) → Among b (a ∷ bs) → P b
among_more P a bs h f b here = h
among_more P a bs h f b (there m) = f b m

-- a box is on the rows from its top to its bottom, and has its whole width there
pub box_is : (q : Placed) (k : ℕ) → q.y ≤ k → k < bottom q → box_on q k ≡ q.form.wide
box_is q k l u =
    let a = le-leb q.y k l in
    let b = lt-ltb (k - q.y) q.form.tall (omega arith) in
    simp (a, b)

box_where : (a b : Bool) (w : ℕ) → 0 < cond a (cond b w 0) 0 → (a ≡ true) × (b ≡ true)
box_where true true w h = (refl, refl)
box_where true false w h = absurd (omega arith)
box_where false b w h = absurd (omega arith)

pub box_covers : (q : Placed) (k : ℕ) → 0 < box_on q k → (q.y ≤ k) × (k < bottom q)
box_covers q k h =
    let w = box_where (leb q.y k) (ltb (k - q.y) q.form.tall) q.form.wide h in
    let a = leb-true q.y k w.0 in
    let b = ltb-true (k - q.y) q.form.tall w.1 in
    (a, omega arith)

-- an area is on the rows from the panel's top on, as wide as the extent there
pub area_is : (q : Placed) (k : ℕ) → q.y ≤ k → area_on q k ≡ q.form.extent (k - q.y)
area_is q k l = let a = le-leb q.y k l in simp a

area_where : (a : Bool) (w : ℕ) → 0 < cond a w 0 → a ≡ true
area_where true w h = refl
area_where false w h = absurd (omega arith)

pub area_below : (q : Placed) (k : ℕ) → 0 < area_on q k → q.y ≤ k
area_below q k h = leb-true q.y k (area_where (leb q.y k) (q.form.extent (k - q.y)) h)

-- two panels of one form are as wide on rows as far below their tops
pub area_moved : (p q : Placed) (k j : ℕ) → p.form ≡ q.form → p.y ≤ k → q.y ≤ j → k - p.y ≡ j - q.y → area_on p k ≡ area_on q j
area_moved p q k j e l m is = let a = area_is p k l in let b = area_is q j m in cc

-- the widest of the first rows
pub widest_within : (f : ℕ → ℕ) (w n : ℕ) → ((k : ℕ) → f k ≤ w) → widest f n ≤ w
widest_within f w zero h = omega arith
widest_within f w (suc n) h = let a = widest_within f w n h in let b = h n in omega arith

pub widest_most : (f : ℕ → ℕ) (n k : ℕ) → k < n → f k ≤ widest f n
widest_most f zero k h = absurd (omega arith)
widest_most f (suc n) k h =
    ⊎_elim
    (λ e. let g : f k ≡ f n = ap f e in omega arith)
    (λ ne. let i = widest_most f n k (omega arith) in omega arith)
    (cases_eq k n)

pub widest_at : (f : ℕ → ℕ) (n : ℕ) → 0 < widest f n → (k : ℕ) × ((k < n) × (f k ≡ widest f n))
widest_at f zero h = absurd (omega arith)
widest_at f (suc n) h =
    ⊎_elim
    (λ lt. (n, (omega arith, omega arith)))
    (λ ge. let i = widest_at f n (omega arith) in (i.0, (omega (arith, i.1.0), omega (arith, i.1.1))))
    (cases_lt (widest f n) (f n))

-- what is off a part is off a lesser part
pub off_less : (s : Side) (c : Span) (x w e e' : ℕ) → e ≤ e' → Off s c (part s x w e') → Off s c (part s x w e)
off_less Left c x w e e' n h = omega arith
off_less Right c x w e e' n h = omega arith

-- the line's band beside one panel more
module _ (m : Span) (qs : List Placed) (p : Placed) (t n : ℕ) (low : t ≤ p.y) where
  pub band_less : Within (band m (p ∷ qs) t n) (beside p (widest p.form.extent (t + n - p.y)) (band m qs t n))
  band_less =
      let c = band m (p ∷ qs) t n in
      let old = band_off c m (p ∷ qs) t n (itself c) in
      let e = widest p.form.extent (t + n - p.y) in
      beside_from c p e (band m qs t n)
      (band_from c m qs t n (band_in c m (p ∷ qs) t n (itself c)) (λ k l u q a. old k l u q (there a)))
      (λ lt.
      let w = widest_at p.form.extent (t + n - p.y) lt in
      let k = w.0 in
      let small = w.1.0 in
      let is : area_on p (p.y + k) ≡ e =
      area_is p (p.y + k) (omega arith) ∙ ap p.form.extent (let e : p.y + k - p.y ≡ k = omega arith in e) ∙ w.1.1 in
      off_same c p (area_on p (p.y + k)) e is (old (p.y + k) (omega arith) (omega arith) p here (omega arith)))

  more_off : (c : Span) → Within c (beside p (widest p.form.extent (t + n - p.y)) (band m qs t n)) → OffAreas c (p ∷ qs) t n
  more_off c h k l u q here lt =
      let below = area_below p k lt in
      let is = area_is p k below in
      let most = widest_most p.form.extent (t + n - p.y) (k - p.y) (omega arith) in
      let e = widest p.form.extent (t + n - p.y) in
      off_less p.side c p.x p.form.wide (area_on p k) e (omega arith) (beside_off c p e (band m qs t n) h (omega arith))
  more_off c h k l u q (there a) lt =
      band_off c m qs t n (beside_in c p (widest p.form.extent (t + n - p.y)) (band m qs t n) h) k l u q a lt

  pub band_more : Within (beside p (widest p.form.extent (t + n - p.y)) (band m qs t n)) (band m (p ∷ qs) t n)
  band_more =
      let e = widest p.form.extent (t + n - p.y) in
      let c = beside p e (band m qs t n) in
      band_from c m (p ∷ qs) t n (band_in c m qs t n (beside_in c p e (band m qs t n) (itself c))) (more_off c (itself c))

pub one_panel_more : OnePanelMore
one_panel_more m qs p t n low =
    within_same (band m (p ∷ qs) t n) (beside p (widest p.form.extent (t + n - p.y)) (band m qs t n))
    (band_less m qs p t n low) (band_more m qs p t n low)

abbrev pub KeepsBeside : Rows → Scene → Placed → Line → Type 0
KeepsBeside z S p n = p.y < n.top + z.line → n.used ≤ room (beside p (widest p.form.extent (n.top + z.line - p.y)) (band S.margins S.placed n.top z.line))

-- so the open line keeps its room beside a panel exactly when it does beside the panel's widest row
pub keeps_to : (z : Rows) (S : Scene) (p : Placed) (n : Line) → n.top ≤ p.y → Keeps z S p (Some n) → KeepsBeside z S p n
keeps_to z S p n low h lt = subst (λ b. n.used ≤ room b) (one_panel_more S.margins S.placed p n.top z.line low) (h lt)

pub keeps_from : (z : Rows) (S : Scene) (p : Placed) (n : Line) → n.top ≤ p.y → KeepsBeside z S p n → Keeps z S p (Some n)
keeps_from z S p n low h = λ lt. subst (λ b. n.used ≤ room b) (sym (one_panel_more S.margins S.placed p n.top z.line low)) (h lt)
