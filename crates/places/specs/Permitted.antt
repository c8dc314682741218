-- Where a panel may stand, and which of these places it takes (CSS 2.1, 9.5.1 and 9.5.2). Assumes nothing.
--     Scene               what a panel is judged against: all that was accepted before it
--     Wanted              a panel order: its side, the sides that it clears, its shape
--     Permitted z S o x y the panel o may stand at (x, y): one field for each rule
--     Best z S o x y      rules 8 and 9: of the permitted places the highest, then the nearest to its side
use Rattle.std.specs.Prelude.{◌≡◌, ℕ, ◌+◌, ◌<◌, ◌≤◌, true, ◌⊎◌, List, ◌∷◌, Some, None, Option}
use Rattle.shapes.specs.declared.sides.Side.{Side}
use Rattle.shapes.specs.declared.sides.Side.TheVariants.{Left, Right}
use Rattle.shapes.specs.declared.sides.Clear.{Clear}
use Rattle.shapes.specs.Form.{Form, opposite, clears}
use Rattle.places.specs.declared.parts.Span.{Span}
use Rattle.places.specs.declared.parts.Line.{Line}
use Rattle.places.specs.Panels.{Placed, Among, bottom}
use Rattle.places.specs.Bands.{room, band}

-- how high a sheet is, and how high its lines are
pub record Rows : Type 0 where
  pub height : ℕ
  pub line : ℕ

pub record Scene : Type 0 where
  -- the panels that stand
  pub placed : List Placed
  -- the top rows of all lines so far, the open one's among them
  pub lines : List ℕ
  -- the open paragraph: its margins and its top
  pub margins : Span
  pub top : ℕ
  -- the open line
  pub current : Option Line

pub record Wanted : Type 0 where
  pub side : Side
  pub clear : Clear
  pub form : Form

abbrev pub put : Wanted → ℕ → ℕ → Placed
put o x y = record { side = o.side; x = x; y = y; form = o.form }

-- p stands past q, seen from side s: right of it on the left, left of it on the right
abbrev pub Past : Side → Placed → Placed → Type 0
Past Left q p = q.x + q.form.wide ≤ p.x
Past Right q p = p.x + p.form.wide ≤ q.x

abbrev pub SharesRow : Placed → Placed → Type 0
SharesRow q p = (q.y < bottom p) × (p.y < bottom q)

-- if the panel p begins above the open line's bottom, the line's band with p's area counted still holds its words
abbrev pub Keeps : Rows → Scene → Placed → Option Line → Type 0
Keeps z S p None = Unit {0}
Keeps z S p (Some n) = p.y < n.top + z.line → n.used ≤ room (band S.margins (p ∷ S.placed) n.top z.line)

pub record Permitted (z : Rows) (S : Scene) (o : Wanted) (x y : ℕ) : Type 0 where
  -- rules 1 and 7, as a house rule: the box lies between the margins
  pub margins : (S.margins.from ≤ x) × (x + o.form.wide ≤ S.margins.to)
  -- rule 2: below each earlier panel of its own side, or past it
  pub own_side : (q : Placed) → Among q S.placed → q.side ≡ o.side → (bottom q ≤ y) ⊎ Past q.side q (put o x y)
  -- rule 3: on no row in the way of an earlier panel of the other side
  pub other_side : (q : Placed) → Among q S.placed → q.side ≡ opposite o.side → SharesRow q (put o x y) → Past q.side q (put o x y)
  -- rule 4: not above the top of its paragraph
  pub paragraph : S.top ≤ y
  -- rule 5: not above the top of any earlier panel
  pub panels : (q : Placed) → Among q S.placed → q.y ≤ y
  -- rule 6: not above the top of any earlier line, the open one included
  pub lines : (t : ℕ) → Among t S.lines → t ≤ y
  -- clear (9.5.2): below each earlier panel of the cleared sides
  pub cleared : (q : Placed) → Among q S.placed → clears o.clear q.side ≡ true → bottom q ≤ y
  -- 9.5: the open line keeps room for its words
  pub line_keeps : Keeps z S (put o x y) S.current
  -- house rule: the box ends on the sheet
  pub high : y + o.form.tall ≤ z.height

-- x' is nearer side s than x
abbrev pub Nearer : Side → ℕ → ℕ → Type 0
Nearer Left x' x = x' < x
Nearer Right x' x = x < x'

pub record Best (z : Rows) (S : Scene) (o : Wanted) (x y : ℕ) : Type 0 where
  pub permitted : Permitted z S o x y
  -- rule 8: no permitted place is higher
  pub highest : (x' y' : ℕ) → y' < y → Permitted z S o x' y' → ⊥
  -- rule 9: none as high is nearer its side
  pub nearest : (x' : ℕ) → Nearer o.side x' x → Permitted z S o x' y → ⊥
