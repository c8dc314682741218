-- How far in panels reach on the rows of a sheet W units wide. Assumes nothing.
--     from_left s x e         how far in from the left what is e wide, from side s on, of a box at x reaches
--     from_right W s x w e    and from the right, of a box w wide
--     reach_at W s x w b a    the reach of a box w wide at x that is b wide on some row, and whose area is a wide there
--     reach_of W q k          the reach of the panel q on row k
--     row_reach W qs k        the reach of the panels qs on row k
--     rows_reach W qs t n     and on the n rows from t on
--     beside_part s x w e b   what is left of the band b beside what is e wide of a box w wide at x
--     Inside W qs             the boxes of qs end within W units
use Rattle.std.specs.Prelude.{ℕ, zero, suc, ◌+◌, ◌-◌, ◌≤◌, cond, List, [], ◌∷◌, nat_lt}
use Rattle.shapes.specs.declared.sides.Side.{Side}
use Rattle.shapes.specs.declared.sides.Side.TheVariants.{Left, Right}
use Rattle.places.specs.declared.parts.Span.{Span}
use Rattle.places.specs.Panels.{Placed, Among, area_on, box_on}
use Rattle.places.specs.Bands.{part, narrow}
use Rattle.reaches.specs.declared.reach.Reach.{Reach}
use Rattle.reaches.specs.Reaches.{reach, no_reach, farther}

abbrev pub from_left : Side → ℕ → ℕ → ℕ
from_left Left x e = cond (nat_lt 0 e) (x + e) 0
from_left Right x e = 0

abbrev pub from_right : ℕ → Side → ℕ → ℕ → ℕ → ℕ
from_right W Left x w e = 0
from_right W Right x w e = cond (nat_lt 0 e) (W - (x + w - e)) 0

abbrev pub reach_at : ℕ → Side → ℕ → ℕ → ℕ → ℕ → Reach
reach_at W s x w b a = reach (from_left s x b) (from_right W s x w b) (from_left s x a) (from_right W s x w a)

abbrev pub reach_of : ℕ → Placed → ℕ → Reach
reach_of W q k = reach_at W q.side q.x q.form.wide (box_on q k) (area_on q k)

abbrev pub row_reach : ℕ → List Placed → ℕ → Reach
row_reach W [] k = no_reach
row_reach W (q ∷ qs) k = farther (reach_of W q k) (row_reach W qs k)

abbrev pub rows_reach : ℕ → List Placed → ℕ → ℕ → Reach
rows_reach W qs t zero = no_reach
rows_reach W qs t (suc n) = farther (row_reach W qs t) (rows_reach W qs (t + 1) n)

-- where e is 0 nothing is taken
abbrev pub beside_part : Side → ℕ → ℕ → ℕ → Span → Span
beside_part s x w e b = cond (nat_lt 0 e) (narrow s b (part s x w e)) b

abbrev pub Inside : ℕ → List Placed → Type 0
Inside W qs = (q : Placed) → Among q qs → q.x + q.form.wide ≤ W
