-- What holds of places. Assumes nothing.
--     Settled S              what every scene of a sheet has: panels have a width, and the open line is among the lines
--     Within c b             the span c lies in the span b
--     OffAreas c qs t n      the span c is off each area of qs on the n rows from t on
--     LowEnough S y          rules 4, 5 and 6 of row y
--     AllowedRow S o y       these and clear
--     BesideOthers S o x y   rules 1, 2, 3 and 7 of the place (x, y)
--     Found z S o r          r is the best place, or none where none is permitted
--     Sought z S start a r   r is the least row of a line, or none where there is none
use Rattle.std.specs.Prelude.{◌≡◌, ℕ, ◌+◌, ◌-◌, ◌<◌, ◌≤◌, true, ◌⊎◌, List, ◌∷◌, Some, None, Option}
use Rattle.shapes.specs.declared.sides.Side.{Side}
use Rattle.shapes.specs.declared.sides.Side.TheVariants.{Left, Right}
use Rattle.shapes.specs.Form.{Real, opposite, clears}
use Rattle.places.specs.declared.parts.Span.{Span}
use Rattle.places.specs.declared.parts.Line.{Line}
use Rattle.places.specs.declared.parts.Place.{Place}
use Rattle.places.specs.Panels.{Placed, Among, bottom, area_on}
use Rattle.places.specs.Bands.{taken, beside, band, free, widest}
use Rattle.places.specs.Permitted.{Rows, Scene, Wanted, put, Past, SharesRow, Keeps, Permitted, Best}
use Rattle.places.specs.Lines.{Lies, Least}
use Rattle.places.specs.Tried.{tops, first_row, near, Good, best_place, least_row}

pub record Settled (S : Scene) : Type 0 where
  pub some : (q : Placed) → Among q S.placed → 0 < q.form.wide
  pub listed : (n : Line) → S.current ≡ Some n → Among n.top S.lines

pub record Within (c b : Span) : Type 0 where
  pub low : b.from ≤ c.from
  pub high : c.to ≤ b.to

-- the span c is off the span a, seen from side s
abbrev pub Off : Side → Span → Span → Type 0
Off Left c a = a.to ≤ c.from
Off Right c a = c.to ≤ a.from

abbrev pub OffAreas : Span → List Placed → ℕ → ℕ → Type 0
OffAreas c qs t n = (k : ℕ) → t ≤ k → k < t + n → (q : Placed) → Among q qs → 0 < area_on q k → Off q.side c (taken q (area_on q k))

-- a span lies in a band exactly when it lies between the margins and is off each area on the band's rows
abbrev pub BandIsLeft : Type 0
BandIsLeft = (c m : Span) (qs : List Placed) (t n : ℕ) → (Within c (band m qs t n) → Within c m × OffAreas c qs t n) × (Within c m → OffAreas c qs t n → Within c (band m qs t n))

-- a panel that begins no higher than a line takes of the line's band what its widest row among the line's rows takes
abbrev pub OnePanelMore : Type 0
OnePanelMore = (m : Span) (qs : List Placed) (p : Placed) (t n : ℕ) → t ≤ p.y → band m (p ∷ qs) t n ≡ beside p (widest p.form.extent (t + n - p.y)) (band m qs t n)

abbrev pub Found : Rows → Scene → Wanted → Option Place → Type 0
Found z S o (Some p) = Best z S o p.x p.y
Found z S o None = (x y : ℕ) → Permitted z S o x y → ⊥

abbrev pub Sought : Rows → Scene → ℕ → ℕ → Option ℕ → Type 0
Sought z S start a (Some t) = Least z S start a t
Sought z S start a None = (t : ℕ) → Lies z S start a t → ⊥

-- there is one best place at most, and one least row
abbrev pub OneBest : Type 0
OneBest = (z : Rows) (S : Scene) (o : Wanted) (x y x' y' : ℕ) → Best z S o x y → Best z S o x' y' → (x ≡ x') × (y ≡ y')

abbrev pub OneLeast : Type 0
OneLeast = (z : Rows) (S : Scene) (start a t t' : ℕ) → Least z S start a t → Least z S start a t' → t ≡ t'

-- no panel of qs begins below row y
abbrev pub TopsAbove : List Placed → ℕ → Type 0
TopsAbove qs y = (q : Placed) → Among q qs → q.y ≤ y

pub record LowEnough (S : Scene) (y : ℕ) : Type 0 where
  pub paragraph : S.top ≤ y
  pub panels : TopsAbove S.placed y
  pub lines : (t : ℕ) → Among t S.lines → t ≤ y

pub record AllowedRow (S : Scene) (o : Wanted) (y : ℕ) : Type 0 where
  pub low : LowEnough S y
  pub cleared : (q : Placed) → Among q S.placed → clears o.clear q.side ≡ true → bottom q ≤ y

-- rules 4, 5 and 6 allow the rows from tops on and no others; with clear, those from first_row on
abbrev pub TopsDecide : Type 0
TopsDecide = (S : Scene) (y : ℕ) → (tops S ≤ y → LowEnough S y) × (LowEnough S y → tops S ≤ y)

abbrev pub FirstRowDecides : Type 0
FirstRowDecides = (S : Scene) (o : Wanted) (y : ℕ) → (first_row S o ≤ y → AllowedRow S o y) × (AllowedRow S o y → first_row S o ≤ y)

-- the units of a box
abbrev pub units : Wanted → ℕ → Span
units o x = record { from = x; to = x + o.form.wide }

pub record BesideOthers (S : Scene) (o : Wanted) (x y : ℕ) : Type 0 where
  pub margins : (S.margins.from ≤ x) × (x + o.form.wide ≤ S.margins.to)
  pub own_side : (q : Placed) → Among q S.placed → q.side ≡ o.side → (bottom q ≤ y) ⊎ Past q.side q (put o x y)
  pub other_side : (q : Placed) → Among q S.placed → q.side ≡ opposite o.side → SharesRow q (put o x y) → Past q.side q (put o x y)

-- where no earlier top is below y, these rules are decided by the boxes on row y alone
abbrev pub RowDecides : Type 0
RowDecides = (S : Scene) (o : Wanted) (x y : ℕ) → Settled S → Real o.form → TopsAbove S.placed y
    → (BesideOthers S o x y → Within (units o x) (free S.margins S.placed y)) × (Within (units o x) (free S.margins S.placed y) → BesideOthers S o x y)

-- and going down, what the boxes leave only grows
abbrev pub RoomGrows : Type 0
RoomGrows = (S : Scene) (y y' : ℕ) → Settled S → TopsAbove S.placed y → y ≤ y' → Within (free S.margins S.placed y) (free S.margins S.placed y')

-- where the open line keeps its room beside a panel anywhere on a row, it does at the nearest place of that row and of each row below
abbrev pub LineKeepsDown : Type 0
LineKeepsDown = (z : Rows) (S : Scene) (o : Wanted) (x y y' : ℕ) → Settled S → tops S ≤ y → y ≤ y'
    → Within (units o x) (free S.margins S.placed y) → Keeps z S (put o x y) S.current → Keeps z S (put o (near S o y') y') S.current

-- if a panel may stand anywhere on a row, it may at the nearest place of that row and of each row below from which it still ends on the sheet
abbrev pub GoesDown : Type 0
GoesDown = (z : Rows) (S : Scene) (o : Wanted) (x y y' : ℕ) → Settled S → Real o.form → Permitted z S o x y → y ≤ y' → y' + o.form.tall ≤ z.height → Permitted z S o (near S o y') y'

-- a panel may stand somewhere on a row exactly when the row is good, and then it may at its nearest place
abbrev pub GoodDecides : Type 0
GoodDecides = (z : Rows) (S : Scene) (o : Wanted) (y : ℕ) → Settled S → Real o.form
    → ((x : ℕ) → Permitted z S o x y → Good z S o y) × (Good z S o y → Permitted z S o (near S o y) y)

-- trying the rows finds the best place, and the least row, or there is none
abbrev pub TryingFinds : Type 0
TryingFinds = (z : Rows) (S : Scene) (o : Wanted) → Settled S → Real o.form → Found z S o (best_place z S o)

abbrev pub TryingSeeks : Type 0
TryingSeeks = (z : Rows) (S : Scene) (start a : ℕ) → Sought z S start a (least_row z S start a)
