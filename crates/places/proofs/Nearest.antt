-- One place of each row is enough: the one nearest the panel's side. Assumes nothing.
use Rattle.std.proofs.Common.{◌≡◌, ℕ, ◌+◌, ◌-◌, ◌<◌, ◌≤◌, ◌⊎◌, List, ◌∷◌, Some, None, Option, sym, refl, ◌∙◌, subst, inl, inr, ⊎_elim, arith}
use Rattle.std.proofs.lemmas.Bool.{cases_lt, cases_order}
use Rattle.shapes.specs.declared.sides.Side.{Side}
use Rattle.shapes.specs.declared.sides.Side.TheVariants.{Left, Right}
use Rattle.shapes.specs.Form.{Real, opposite}
use Rattle.places.specs.declared.parts.Span.{Span}
use Rattle.places.specs.declared.parts.Line.{Line}
use Rattle.places.specs.Panels.{Placed, Among, here, there, bottom, area_on, box_on}
use Rattle.places.specs.Bands.{span, part, band, free}
use Rattle.places.specs.Permitted.{Rows, Scene, Wanted, put, Past, Keeps, Permitted, Nearer, Best}
use Rattle.places.specs.Tried.{against, near, Good}
use Rattle.places.specs.Theorems.{Settled, Within, Off, OffAreas, TopsAbove, units, BesideOthers, OneBest, RowDecides, RoomGrows, LineKeepsDown, GoesDown, GoodDecides}
use Rattle.places.proofs.Bands.{itself, within_trans, within_room, off_same, row_in, row_off, row_from, band_in, band_off, band_from}
use Rattle.places.proofs.Panels.{box_is, box_covers, area_below, area_moved}
use Rattle.places.proofs.Firsts.{tops_to, first_row_to, first_row_from, permitted_row}

pub either_side : (a b : Side) → (a ≡ b) ⊎ (a ≡ opposite b)
either_side Left Left = inl refl
either_side Left Right = inr refl
either_side Right Left = inr refl
either_side Right Right = inl refl

-- past a panel is off its whole box
past_off : (s : Side) (q : Placed) (o : Wanted) (x y : ℕ) → Past s q (put o x y) → Off s (units o x) (part s q.x q.form.wide q.form.wide)
past_off Left q o x y h = h
past_off Right q o x y h = omega arith

off_past : (s : Side) (q : Placed) (o : Wanted) (x y : ℕ) → Off s (units o x) (part s q.x q.form.wide q.form.wide) → Past s q (put o x y)
off_past Left q o x y h = h
off_past Right q o x y h = omega arith

-- rules 1, 2, 3 and 7, and the boxes of the row
pub inside : (S : Scene) (o : Wanted) (x y : ℕ) → Real o.form → TopsAbove S.placed y → BesideOthers S o x y → Within (units o x) (free S.margins S.placed y)
inside S o x y f above b =
    row_from box_on (units o x) S.margins S.placed y
    (record { low = b.margins.0; high = b.margins.1 })
    (λ q a lt.
    let cover = box_covers q y lt in
    let top = above q a in
    let tall = f.tall_some in
    let past : Past q.side q (put o x y) =
    ⊎_elim
    (λ e. ⊎_elim (λ (ends : bottom q ≤ y). absurd (omega arith)) (λ h. h) (b.own_side q a e))
    (λ e. b.other_side q a e (omega arith, cover.1))
    (either_side q.side o.side) in
    off_same (units o x) q q.form.wide (box_on q y) (sym (box_is q y cover.0 cover.1)) (past_off q.side q o x y past))

pub outside : (S : Scene) (o : Wanted) (x y : ℕ) → Settled S → TopsAbove S.placed y → Within (units o x) (free S.margins S.placed y) → BesideOthers S o x y
outside S o x y t above h = record {
  margins = (m.low, m.high);
  own_side = λ q a e. ⊎_elim (λ lt. inr (past q a lt)) (λ ge. inl ge) (cases_lt y (bottom q));
  other_side = λ q a e shares. past q a shares.1;
}
  where
    m : Within (units o x) S.margins
    m = row_in box_on (units o x) S.margins S.placed y h

    past : (q : Placed) → Among q S.placed → y < bottom q → Past q.side q (put o x y)
    past q a lt =
        let some = t.some q a in
        let is = box_is q y (above q a) lt in
        let off = row_off box_on (units o x) S.margins S.placed y h q a (omega arith) in
        off_past q.side q o x y (off_same (units o x) q (box_on q y) q.form.wide is off)

pub row_decides : RowDecides
row_decides S o x y t f above = (inside S o x y f above, outside S o x y t above)

-- further down, the boxes leave no less
pub room_grows : RoomGrows
room_grows S y y' t above le =
    let b = free S.margins S.placed y in
    row_from box_on b S.margins S.placed y'
    (row_in box_on b S.margins S.placed y (itself b))
    (λ q a lt.
    let cover = box_covers q y' lt in
    let some = t.some q a in
    let is' = box_is q y' cover.0 cover.1 in
    let is = box_is q y (above q a) (omega arith) in
    let off = row_off box_on b S.margins S.placed y (itself b) q a (omega arith) in
    off_same b q (box_on q y) (box_on q y') (is ∙ sym is') off)

-- the nearest place lies in a span if anything as wide does
pub against_in : (s : Side) (c b : Span) (w : ℕ) → Within c b → c.from + w ≤ c.to → Within (span (against s b w) (against s b w + w)) b
against_in Left c b w h n = record { low = omega arith; high = omega arith }
against_in Right c b w h n = record { low = omega arith; high = omega arith }

-- x' is at least as near side s as x
abbrev pub AsNear : Side → ℕ → ℕ → Type 0
AsNear Left x' x = x' ≤ x
AsNear Right x' x = x ≤ x'

-- and no place in the span is nearer
pub against_near : (s : Side) (b : Span) (x w : ℕ) → Within (span x (x + w)) b → AsNear s (against s b w) x
against_near Left b x w h = h.low
against_near Right b x w h = omega arith

near_not : (s : Side) (x x' : ℕ) → AsNear s x x' → Nearer s x' x → ⊥
near_not Left x x' h n = omega arith
near_not Right x x' h n = omega arith

-- a panel that stands as near its side, and no higher, takes no more of a line that begins above it
off_near : (s : Side) (c : Span) (x x' w e : ℕ) → AsNear s x' x → Off s c (part s x w e) → Off s c (part s x' w e)
off_near Left c x x' w e n h = omega arith
off_near Right c x x' w e n h = omega arith

pub line_grows : (m : Span) (qs : List Placed) (o : Wanted) (x x' y y' t n : ℕ) → AsNear o.side x' x → t ≤ y → y ≤ y' → Within (band m (put o x y ∷ qs) t n) (band m (put o x' y' ∷ qs) t n)
line_grows m qs o x x' y y' t n nearer low le = band_from c m (put o x' y' ∷ qs) t n (band_in c m (put o x y ∷ qs) t n (itself c)) off
  where
    c : Span
    c = band m (put o x y ∷ qs) t n

    old : OffAreas c (put o x y ∷ qs) t n
    old = band_off c m (put o x y ∷ qs) t n (itself c)

    off : OffAreas c (put o x' y' ∷ qs) t n
    off k l u q here lt =
        let below = area_below (put o x' y') k lt in
        let is = area_moved (put o x y) (put o x' y') (y + (k - y')) k refl (omega arith) below (omega arith) in
        let h = old (y + (k - y')) (omega arith) (omega arith) (put o x y) here (omega arith) in
        off_near o.side c x x' o.form.wide (area_on (put o x' y') k) nearer
        (off_same c (put o x y) (area_on (put o x y) (y + (k - y'))) (area_on (put o x' y') k) is h)
    off k l u q (there a) lt = old k l u q (there a) lt

keeps_lower : (z : Rows) (S : Scene) (o : Wanted) (x x' y y' : ℕ) (n : Option Line) → ((l : Line) → n ≡ Some l → l.top ≤ y) → AsNear o.side x' x → y ≤ y' → Keeps z S (put o x y) n → Keeps z S (put o x' y') n
keeps_lower z S o x x' y y' None above nearer le h = tt
keeps_lower z S o x x' y y' (Some n) above nearer le h = λ lt.
    let grown = line_grows S.margins S.placed o x x' y y' n.top z.line nearer (above n refl) le in
    let old = h (omega arith) in
    let more = within_room (band S.margins (put o x y ∷ S.placed) n.top z.line) (band S.margins (put o x' y' ∷ S.placed) n.top z.line) grown in
    omega arith

pub line_keeps_down : LineKeepsDown
line_keeps_down z S o x y y' t low le h keeps =
    let rules = tops_to S y low in
    let b = free S.margins S.placed y in
    let b' = free S.margins S.placed y' in
    let h' = within_trans (units o x) b b' h (room_grows S y y' t rules.panels le) in
    keeps_lower z S o x (near S o y') y y' S.current (λ l is. rules.lines l.top (t.listed l is))
    (against_near o.side b' x o.form.wide h') le keeps

-- a row is good if a panel may stand anywhere on it, and then it may at the nearest place
permitted_beside : {z : Rows} {S : Scene} {o : Wanted} {x y : ℕ} → Permitted z S o x y → BesideOthers S o x y
permitted_beside p = record { margins = p.margins; own_side = p.own_side; other_side = p.other_side }

pub good_to : {z : Rows} {S : Scene} {o : Wanted} {x y : ℕ} → Settled S → Real o.form → Permitted z S o x y → Good z S o y
good_to {z} {S} {o} {x} {y} t f p =
    let i = inside S o x y f p.panels (permitted_beside p) in
    let start = first_row_from S o y (permitted_row p) in
    record {
      start = start;
      fits = omega arith;
      keeps = line_keeps_down z S o x y y t (omega arith) (omega arith) i p.line_keeps;
      high = p.high;
    }

-- the box at the nearest place of a good row lies in the row's free span
pub good_in : {z : Rows} {S : Scene} {o : Wanted} {y : ℕ} → Good z S o y → Within (units o (near S o y)) (free S.margins S.placed y)
good_in {z} {S} {o} {y} g =
    let b = free S.margins S.placed y in
    against_in o.side b b o.form.wide (itself b) g.fits

pub good_from : {z : Rows} {S : Scene} {o : Wanted} {y : ℕ} → Settled S → Good z S o y → Permitted z S o (near S o y) y
good_from {z} {S} {o} {y} t g =
    let row = first_row_to S o y g.start in
    let sides = outside S o (near S o y) y t row.low.panels (good_in g) in
    record {
      margins = sides.margins;
      own_side = sides.own_side;
      other_side = sides.other_side;
      paragraph = row.low.paragraph;
      panels = row.low.panels;
      lines = row.low.lines;
      cleared = row.cleared;
      line_keeps = g.keeps;
      high = g.high;
    }

pub good_decides : GoodDecides
good_decides z S o y t f = (λ x p. good_to t f p, good_from t)

-- the rows below a good row are good, until the sheet ends
pub good_down : {z : Rows} {S : Scene} {o : Wanted} {y : ℕ} (y' : ℕ) → Settled S → Good z S o y → y ≤ y' → y' + o.form.tall ≤ z.height → Good z S o y'
good_down {z} {S} {o} {y} y' t g le high =
    let start = g.start in
    let fits = g.fits in
    let grown = room_grows S y y' t (first_row_to S o y start).low.panels le in
    record {
      start = omega arith;
      fits = omega arith;
      keeps = line_keeps_down z S o (near S o y) y y' t (omega arith) le (good_in g) g.keeps;
      high = high;
    }

pub goes_down : GoesDown
goes_down z S o x y y' t f p le high = good_from t (good_down y' t (good_to t f p) le high)

-- the highest good row has the best place, and without a good row there is none
pub best : {z : Rows} {S : Scene} {o : Wanted} {y : ℕ} → Settled S → Real o.form → Good z S o y → ((y' : ℕ) → y' < y → Good z S o y' → ⊥) → Best z S o (near S o y) y
best {z} {S} {o} {y} t f g none = record {
  permitted = good_from t g;
  highest = λ x' y' lt p. none y' lt (good_to t f p);
  nearest = λ x' n p.
      near_not o.side (near S o y) x'
      (against_near o.side (free S.margins S.placed y) x' o.form.wide (inside S o x' y f p.panels (permitted_beside p)))
      n;
}

pub nowhere : {z : Rows} {S : Scene} {o : Wanted} → Settled S → Real o.form → ((y : ℕ) → Good z S o y → ⊥) → (x y : ℕ) → Permitted z S o x y → ⊥
nowhere t f none x y p = none y (good_to t f p)

-- there is one best place at most
pub same_by : (a b : ℕ) → (a < b → ⊥) → (b < a → ⊥) → a ≡ b
same_by a b h k = ⊎_elim (λ e. e) (⊎_elim (λ lt. absurd (h lt)) (λ gt. absurd (k gt))) (cases_order a b)

same_near : (s : Side) (x x' : ℕ) → (Nearer s x x' → ⊥) → (Nearer s x' x → ⊥) → x ≡ x'
same_near Left x x' h k = same_by x x' h k
same_near Right x x' h k = same_by x x' k h

pub one_best : OneBest
one_best z S o x y x' y' a b =
    let same : y ≡ y' = same_by y y' (λ lt. b.highest x y lt a.permitted) (λ lt. a.highest x' y' lt b.permitted) in (
      same_near o.side x x'
          (λ n. b.nearest x n (subst (λ k. Permitted z S o x k) same a.permitted))
          (λ n. a.nearest x' n (subst (λ k. Permitted z S o x' k) (sym same) b.permitted)),
      same,
    )
