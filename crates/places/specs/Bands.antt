-- What panels leave of a row, and of the rows of a line (CSS 2.1, 9.5; CSS Shapes: the float area). Assumes nothing.
--     room b            how wide the span b is, 0 where its right edge comes first
--     part s x w e      what is e wide, from side s on, of a box w wide at x
--     taken q e         what the panel q takes of a row on which it is e wide
--     narrow s b a      what is left of the band b beside the span a, taken from side s
--     band m qs t n     the band of the n rows from t on between the margins m: what the areas of qs leave on all of them
--     free m qs y       what the boxes of qs leave of row y between the margins m
--     widest f n        the greatest of the extents f 0 to f (n - 1), 0 where n is 0
use Rattle.std.specs.Prelude.{ℕ, zero, suc, ◌+◌, ◌-◌, min, max, cond, List, [], ◌∷◌, nat_lt}
use Rattle.shapes.specs.declared.sides.Side.{Side}
use Rattle.shapes.specs.declared.sides.Side.TheVariants.{Left, Right}
use Rattle.places.specs.declared.parts.Span.{Span}
use Rattle.places.specs.Panels.{Placed, area_on, box_on}

abbrev pub span : ℕ → ℕ → Span
span a b = record { from = a; to = b }

abbrev pub room : Span → ℕ
room b = b.to - b.from

-- the area of a left panel runs from x to x + e, that of a right one from x + w - e to x + w
abbrev pub part : Side → ℕ → ℕ → ℕ → Span
part Left x w e = span x (x + e)
part Right x w e = span (x + w - e) (x + w)

abbrev pub taken : Placed → ℕ → Span
taken q e = part q.side q.x q.form.wide e

-- a band begins no farther left than the right edges of left areas, and ends no farther right than the left edges of right ones
abbrev pub narrow : Side → Span → Span → Span
narrow Left b a = span (max b.from a.to) b.to
narrow Right b a = span b.from (min b.to a.from)

-- beside a panel that is e wide on a row: where e is 0 it takes nothing there
abbrev pub beside : Placed → ℕ → Span → Span
beside q e b = cond (nat_lt 0 e) (narrow q.side b (taken q e)) b

-- beside all of them on row k; what counts is their areas or their boxes
abbrev pub row_band : (Placed → ℕ → ℕ) → Span → List Placed → ℕ → Span
row_band on b [] k = b
row_band on b (q ∷ qs) k = beside q (on q k) (row_band on b qs k)

abbrev pub band : Span → List Placed → ℕ → ℕ → Span
band m qs t zero = m
band m qs t (suc n) = row_band area_on (band m qs (t + 1) n) qs t

abbrev pub free : Span → List Placed → ℕ → Span
free m qs y = row_band box_on m qs y

abbrev pub widest : (ℕ → ℕ) → ℕ → ℕ
widest f zero = 0
widest f (suc n) = max (widest f n) (f n)
