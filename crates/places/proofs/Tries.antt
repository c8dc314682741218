-- Trying rows one by one. Assumes nothing.
use Rattle.std.proofs.Common.{◌≡◌, ℕ, zero, suc, ◌+◌, ◌-◌, ◌<◌, ◌≤◌, Bool, true, false, cond, ◌&&◌, leb, ◌∷◌, Some, None, Option, refl, ap, subst, ⊎_elim, arith}
use Rattle.std.proofs.lemmas.Bool.{leb-true, le-leb, cases_lt, cases_eq, both_ways, and_parts, and_from, or_cases, or_left, or_right}
use Rattle.shapes.specs.Form.{Real}
use Rattle.places.specs.declared.parts.Line.{Line}
use Rattle.places.specs.declared.parts.Place.{Place}
use Rattle.places.specs.Panels.{Placed}
use Rattle.places.specs.Bands.{room, band, free}
use Rattle.places.specs.Permitted.{Rows, Scene, Wanted, put, Keeps}
use Rattle.places.specs.Lines.{Lies}
use Rattle.places.specs.Tried.{first_row, near, line_has_room, Good, row_good, first_that, nearest_of, lies}
use Rattle.places.specs.Theorems.{Settled, Found, Sought, OneLeast, TryingFinds, TryingSeeks}
use Rattle.places.proofs.Nearest.{best, nowhere, same_by, one_best}

-- r is the first row from t on that passes
pub record FirstAt (p : ℕ → Bool) (t r : ℕ) : Type 0 where
  pub low : t ≤ r
  pub passes : p r ≡ true
  pub first : (k : ℕ) → t ≤ k → k < r → p k ≡ true → ⊥

-- what was found among the n rows from t on
abbrev pub First : (ℕ → Bool) → ℕ → ℕ → Option ℕ → Type 0
First p t n None = (k : ℕ) → t ≤ k → k < t + n → p k ≡ true → ⊥
First p t n (Some r) = FirstAt p t r

first_later : (p : ℕ → Bool) (t k : ℕ) → p t ≡ false → t ≤ k → p k ≡ true → t + 1 ≤ k
first_later p t k fails le passes =
    ⊎_elim (λ e. absurd (both_ways (p t) fails (subst (λ i. p i ≡ true) e passes))) (λ ne. omega arith) (cases_eq k t)

first_more : (p : ℕ → Bool) (t n : ℕ) (b : Bool) → p t ≡ b → (r : Option ℕ) → First p (t + 1) n r → First p t (suc n) (cond b (Some t) r)
first_more p t n true e r h = record { low = omega arith; passes = e; first = λ k l u. absurd (omega arith) }
first_more p t n false e None h = λ k l u passes. h k (first_later p t k e l passes) (omega arith) passes
first_more p t n false e (Some r) h =
    let low = h.low in
    record { low = omega arith; passes = h.passes; first = λ k l u passes. h.first k (first_later p t k e l passes) u passes }

pub first_that_is : (p : ℕ → Bool) (t n : ℕ) → First p t n (first_that p t n)
first_that_is p t zero = λ k l u passes. omega arith
first_that_is p t (suc n) = first_more p t n (p t) refl (first_that p (t + 1) n) (first_that_is p (t + 1) n)

-- the tests decide what they are tests of
pub room_keeps : (z : Rows) (S : Scene) (p : Placed) (n : Option Line) → line_has_room z S p n ≡ true → Keeps z S p n
room_keeps z S p None e = tt
room_keeps z S p (Some n) e = λ lt.
    let has = room (band S.margins (p ∷ S.placed) n.top z.line) in
    ⊎_elim
    (λ a. let h = leb-true (n.top + z.line) p.y a in absurd (omega arith))
    (λ b. leb-true n.used has b)
    (or_cases (leb (n.top + z.line) p.y) (leb n.used has) e)

pub keeps_room : (z : Rows) (S : Scene) (p : Placed) (n : Option Line) → Keeps z S p n → line_has_room z S p n ≡ true
keeps_room z S p None h = refl
keeps_room z S p (Some n) h =
    let has = room (band S.margins (p ∷ S.placed) n.top z.line) in
    ⊎_elim
    (λ lt. or_right (leb (n.top + z.line) p.y) (leb n.used has) (le-leb n.used has (h lt)))
    (λ ge. or_left (leb (n.top + z.line) p.y) (leb n.used has) (le-leb (n.top + z.line) p.y ge))
    (cases_lt p.y (n.top + z.line))

module _ (z : Rows) (S : Scene) (o : Wanted) (y : ℕ) where
  pub tried_good : first_row S o ≤ y → row_good z S o y ≡ true → Good z S o y
  tried_good start e =
      let b = free S.margins S.placed y in
      let u = and_parts (leb (b.from + o.form.wide) b.to) (line_has_room z S (put o (near S o y) y) S.current && leb (y + o.form.tall) z.height) e in
      let v = and_parts (line_has_room z S (put o (near S o y) y) S.current) (leb (y + o.form.tall) z.height) u.1 in
      record {
        start = start;
        fits = leb-true (b.from + o.form.wide) b.to u.0;
        keeps = room_keeps z S (put o (near S o y) y) S.current v.0;
        high = leb-true (y + o.form.tall) z.height v.1;
      }

  pub good_tried : Good z S o y → row_good z S o y ≡ true
  good_tried g =
      let b = free S.margins S.placed y in
      and_from (leb (b.from + o.form.wide) b.to) (line_has_room z S (put o (near S o y) y) S.current && leb (y + o.form.tall) z.height)
      (le-leb (b.from + o.form.wide) b.to g.fits)
      (and_from (line_has_room z S (put o (near S o y) y) S.current) (leb (y + o.form.tall) z.height)
      (keeps_room z S (put o (near S o y) y) S.current g.keeps)
      (le-leb (y + o.form.tall) z.height g.high))

module _ (z : Rows) (S : Scene) (start a t : ℕ) where
  pub tried_lies : start ≤ t → lies z S a t ≡ true → Lies z S start a t
  tried_lies low e =
      let has = room (band S.margins S.placed t z.line) in
      let u = and_parts (leb a has) (leb (t + z.line) z.height) e in
      record { low = low; high = leb-true (t + z.line) z.height u.1; wide = leb-true a has u.0 }

  pub lies_tried : Lies z S start a t → lies z S a t ≡ true
  lies_tried h =
      let has = room (band S.margins S.placed t z.line) in
      and_from (leb a has) (leb (t + z.line) z.height) (le-leb a has h.wide) (le-leb (t + z.line) z.height h.high)

-- what trying finds
found : (z : Rows) (S : Scene) (o : Wanted) → Settled S → Real o.form → (r : Option ℕ) → First (row_good z S o) (first_row S o) (z.height + 1 - first_row S o) r → Found z S o (nearest_of S o r)
found z S o t f None none = nowhere t f (λ y g. let start = g.start in let high = g.high in none y start (omega arith) (good_tried z S o y g))
found z S o t f (Some y) h = best t f (tried_good z S o y h.low h.passes) (λ y' lt g. h.first y' g.start lt (good_tried z S o y' g))

pub trying_finds : TryingFinds
trying_finds z S o t f = found z S o t f (first_that (row_good z S o) (first_row S o) (z.height + 1 - first_row S o)) (first_that_is (row_good z S o) (first_row S o) (z.height + 1 - first_row S o))

sought : (z : Rows) (S : Scene) (start a : ℕ) (r : Option ℕ) → First (lies z S a) start (z.height + 1 - start) r → Sought z S start a r
sought z S start a None none = λ t h. let low = h.low in let high = h.high in none t low (omega arith) (lies_tried z S start a t h)
sought z S start a (Some t) h = record {
  lies = tried_lies z S start a t h.low h.passes;
  highest = λ t' lt k. h.first t' k.low lt (lies_tried z S start a t' k);
}

pub trying_seeks : TryingSeeks
trying_seeks z S start a = sought z S start a (first_that (lies z S a) start (z.height + 1 - start)) (first_that_is (lies z S a) start (z.height + 1 - start))

-- there is one least row at most
pub one_least : OneLeast
one_least z S start a t t' h k = same_by t t' (λ lt. k.highest t lt h.lies) (λ lt. h.highest t' lt k.lies)

-- an answer that is found or sought is the only one
same_place : (x y x' y' : ℕ) → x ≡ x' → y ≡ y' → ◌≡◌ {A = Place} (record { x = x; y = y }) (record { x = x'; y = y' })
same_place x y x' y' e f = cc

pub one_found : (z : Rows) (S : Scene) (o : Wanted) (r r' : Option Place) → Found z S o r → Found z S o r' → r ≡ r'
one_found z S o None None h k = refl
one_found z S o None (Some q) h k = absurd (h q.x q.y k.permitted)
one_found z S o (Some p) None h k = absurd (k p.x p.y h.permitted)
one_found z S o (Some p) (Some q) h k =
    let same = one_best z S o p.x p.y q.x q.y h k in
    ap Some (same_place p.x p.y q.x q.y same.0 same.1)

pub one_sought : (z : Rows) (S : Scene) (start a : ℕ) (r r' : Option ℕ) → Sought z S start a r → Sought z S start a r' → r ≡ r'
one_sought z S start a None None h k = refl
one_sought z S start a None (Some t) h k = absurd (h t k.lies)
one_sought z S start a (Some t) None h k = absurd (k t h.lies)
one_sought z S start a (Some t) (Some t') h k = ap Some (one_least z S start a t t' h k)
