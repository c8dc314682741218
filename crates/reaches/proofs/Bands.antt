-- The panels' reaches leave what the panels leave. Assumes nothing.
use Rattle.std.proofs.Common.{◌≡◌, ℕ, zero, suc, ◌+◌, ◌-◌, ◌≤◌, max, Bool, true, false, cond, ltb, List, [], ◌∷◌, refl, ap, ◌∙◌, arith}
use Rattle.shapes.specs.declared.sides.Side.{Side}
use Rattle.shapes.specs.declared.sides.Side.TheVariants.{Left, Right}
use Rattle.places.specs.declared.parts.Span.{Span}
use Rattle.places.specs.Panels.{Placed, here, there, area_on, box_on}
use Rattle.places.specs.Bands.{part, narrow, beside, row_band}
use Rattle.places.proofs.Bands.{same_span}
use Rattle.reaches.specs.Reaches.{between}
use Rattle.reaches.specs.Panels.{from_left, from_right, row_reach, rows_reach, Inside}
use Rattle.reaches.specs.Theorems.{AreasLeaveTheBand, BoxesLeaveTheFree}

-- the two reaches by the test whether anything is taken
abbrev lefts : Side → Bool → ℕ → ℕ → ℕ
lefts Left t x e = cond t (x + e) 0
lefts Right t x e = 0

abbrev rights : ℕ → Side → Bool → ℕ → ℕ → ℕ → ℕ
rights W Left t x w e = 0
rights W Right t x w e = cond t (W - (x + w - e)) 0

lefts_is : (s : Side) (x e : ℕ) → lefts s (ltb 0 e) x e ≡ from_left s x e
lefts_is Left x e = refl
lefts_is Right x e = refl

rights_is : (W : ℕ) (s : Side) (x w e : ℕ) → rights W s (ltb 0 e) x w e ≡ from_right W s x w e
rights_is W Left x w e = refl
rights_is W Right x w e = refl

by_test : (W : ℕ) (s : Side) (t : Bool) (x w e : ℕ) (m : Span) (l r : ℕ) → x + w ≤ W
    → cond t (narrow s (between W m l r) (part s x w e)) (between W m l r) ≡ between W m (max (lefts s t x e) l) (max (rights W s t x w e) r)
by_test W Left true x w e m l r h = same_span _ _ _ _ (omega arith) (omega arith)
by_test W Left false x w e m l r h = same_span _ _ _ _ (omega arith) (omega arith)
by_test W Right true x w e m l r h = same_span _ _ _ _ (omega arith) (omega arith)
by_test W Right false x w e m l r h = same_span _ _ _ _ (omega arith) (omega arith)

-- one panel more
one_more : (W : ℕ) (q : Placed) (e : ℕ) (m : Span) (l r : ℕ) → q.x + q.form.wide ≤ W
    → beside q e (between W m l r) ≡ between W m (max (from_left q.side q.x e) l) (max (from_right W q.side q.x q.form.wide e) r)
one_more W q e m l r h =
    let u = lefts_is q.side q.x e in
    let v = rights_is W q.side q.x q.form.wide e in
    let step = by_test W q.side (ltb 0 e) q.x q.form.wide e m l r h in
    cc

-- nothing reaches in: the margins as they are
none_in : (W : ℕ) (m : Span) → m.to ≤ W → m ≡ between W m 0 0
none_in W m h = same_span _ _ _ _ (omega arith) (omega arith)

pub boxes_leave_the_free : BoxesLeaveTheFree
boxes_leave_the_free W m [] y h f = none_in W m h
boxes_leave_the_free W m (q ∷ qs) y h f =
    ap (beside q (box_on q y)) (boxes_leave_the_free W m qs y h (λ p a. f p (there a)))
    ∙ one_more W q (box_on q y) m (row_reach W qs y).box_left (row_reach W qs y).box_right (f q here)

-- the areas of one row more
areas_row : (W : ℕ) (m : Span) (l r : ℕ) (qs : List Placed) (k : ℕ) → Inside W qs
    → row_band area_on (between W m l r) qs k ≡ between W m (max (row_reach W qs k).area_left l) (max (row_reach W qs k).area_right r)
areas_row W m l r [] k f = same_span _ _ _ _ (omega arith) (omega arith)
areas_row W m l r (q ∷ qs) k f =
    let left = (row_reach W qs k).area_left in
    let right = (row_reach W qs k).area_right in
    ap (beside q (area_on q k)) (areas_row W m l r qs k (λ p a. f p (there a)))
    ∙ one_more W q (area_on q k) m (max left l) (max right r) (f q here)
    ∙ same_span _ _ _ _ (omega arith) (omega arith)

pub areas_leave_the_band : AreasLeaveTheBand
areas_leave_the_band W m qs t zero h f = none_in W m h
areas_leave_the_band W m qs t (suc n) h f =
    let later = rows_reach W qs (t + 1) n in
    ap (λ b. row_band area_on b qs t) (areas_leave_the_band W m qs (t + 1) n h f)
    ∙ areas_row W m later.area_left later.area_right qs t f
