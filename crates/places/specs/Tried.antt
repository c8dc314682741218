-- The best place and the least row, worked out by trying the rows one by one. Assumes nothing.
--     bottoms c qs            the greatest bottom of the panels that c clears, 0 where there is none
--     tops S                  the greatest of the paragraph's top and the tops of panels and lines
--     first_row S o           the first row allowed by rules 4 to 6 and clear
--     near S o y              the place of row y nearest the panel's side
--     Good z S o y            the nearest place of row y will do; row_good is the test
--     best_place z S o        the best place, or none
--     least_row z S start a   the least row for a word's line, or none
use Rattle.std.specs.Prelude.{ℕ, zero, suc, ◌+◌, ◌-◌, ◌≤◌, max, Bool, true, cond, ◌&&◌, ◌||◌, List, [], ◌∷◌, Some, None, Option, nat_le}
use Rattle.shapes.specs.declared.sides.Side.{Side}
use Rattle.shapes.specs.declared.sides.Side.TheVariants.{Left, Right}
use Rattle.shapes.specs.declared.sides.Clear.{Clear}
use Rattle.shapes.specs.Form.{clears}
use Rattle.places.specs.declared.parts.Span.{Span}
use Rattle.places.specs.declared.parts.Line.{Line}
use Rattle.places.specs.declared.parts.Place.{Place}
use Rattle.places.specs.Panels.{Placed, bottom}
use Rattle.places.specs.Bands.{room, band, free}
use Rattle.places.specs.Permitted.{Rows, Scene, Wanted, put, Keeps}

-- the greatest that f gives of a list, 0 where it is empty
abbrev pub most : {A : Type 0} → (A → ℕ) → List A → ℕ
most f [] = 0
most f (a ∷ bs) = max (f a) (most f bs)

abbrev pub bottoms : Clear → List Placed → ℕ
bottoms c qs = most {A = Placed} (λ q. cond (clears c q.side) (bottom q) 0) qs

abbrev pub panel_tops : List Placed → ℕ
panel_tops qs = most {A = Placed} (λ q. q.y) qs

abbrev pub greatest : List ℕ → ℕ
greatest ts = most {A = ℕ} (λ t. t) ts

abbrev pub tops : Scene → ℕ
tops S = max S.top (max (panel_tops S.placed) (greatest S.lines))

abbrev pub first_row : Scene → Wanted → ℕ
first_row S o = max (tops S) (bottoms o.clear S.placed)

-- the place nearest its side in a span of what is w wide
abbrev pub against : Side → Span → ℕ → ℕ
against Left b w = b.from
against Right b w = b.to - w

abbrev pub near : Scene → Wanted → ℕ → ℕ
near S o y = against o.side (free S.margins S.placed y) o.form.wide

abbrev pub line_has_room : Rows → Scene → Placed → Option Line → Bool
line_has_room z S p None = true
line_has_room z S p (Some n) = nat_le (n.top + z.line) p.y || nat_le n.used (room (band S.margins (p ∷ S.placed) n.top z.line))

-- what the nearest place of row y has to show
pub record Good (z : Rows) (S : Scene) (o : Wanted) (y : ℕ) : Type 0 where
  pub start : first_row S o ≤ y
  pub fits : (free S.margins S.placed y).from + o.form.wide ≤ (free S.margins S.placed y).to
  pub keeps : Keeps z S (put o (near S o y) y) S.current
  pub high : y + o.form.tall ≤ z.height

-- the same as a test, from the first row on
abbrev pub row_good : Rows → Scene → Wanted → ℕ → Bool
row_good z S o y =
    nat_le ((free S.margins S.placed y).from + o.form.wide) (free S.margins S.placed y).to
    && (line_has_room z S (put o (near S o y) y) S.current && nat_le (y + o.form.tall) z.height)

-- the first of the n rows from t on that passes a test
abbrev pub first_that : (ℕ → Bool) → ℕ → ℕ → Option ℕ
first_that p t zero = None
first_that p t (suc n) = cond (p t) (Some t) (first_that p (t + 1) n)

abbrev pub nearest_of : Scene → Wanted → Option ℕ → Option Place
nearest_of S o None = None
nearest_of S o (Some y) = Some (record { x = near S o y; y = y })

abbrev pub best_place : Rows → Scene → Wanted → Option Place
best_place z S o = nearest_of S o (first_that (row_good z S o) (first_row S o) (z.height + 1 - first_row S o))

-- a word of advance a fits a new line at t
abbrev pub lies : Rows → Scene → ℕ → ℕ → Bool
lies z S a t = nat_le a (room (band S.margins S.placed t z.line)) && nat_le (t + z.line) z.height

abbrev pub least_row : Rows → Scene → ℕ → ℕ → Option ℕ
least_row z S start a = first_that (lies z S a) start (z.height + 1 - start)
