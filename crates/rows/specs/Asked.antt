-- How what the rows are asked stands for the words of the rules. Assumes nothing.
--     sizes_of rows L              the sheet's height, and lines of L rows
--     wanted s c f                 the order of a panel of the form f on side s that clears c
--     panel_at s x y f             a panel of the form f that stands on side s at (x, y)
--     Ends n L H                   the open line n, if any, ends within H rows
--     Shows rows m n scene         the rows, the margins m and the open line n are those of the scene, which is settled
--     BoxInside rows f q           a box of the form f whose upper left corner is at q lies on the sheet
use Rattle.std.specs.Prelude.{◌≡◌, ℕ, ◌+◌, ◌≤◌, Some, None, Option}
use Rattle.shapes.specs.declared.sides.Side.{Side}
use Rattle.shapes.specs.declared.sides.Clear.{Clear}
use Rattle.shapes.specs.Form.{Form}
use Rattle.places.specs.declared.parts.Span.{Span}
use Rattle.places.specs.declared.parts.Line.{Line}
use Rattle.places.specs.declared.parts.Place.{Place}
use Rattle.places.specs.Panels.{Placed}
use Rattle.places.specs.Permitted.{Rows as Sizes, Scene, Wanted}
use Rattle.places.specs.Theorems.{Settled}
use Rattle.rows.specs.declared.Rows.{Rows}
use Rattle.rows.specs.Told.{Tells}

abbrev pub sizes_of : Rows → ℕ → Sizes
sizes_of rows L = record { height = rows.height; line = L }

abbrev pub wanted : Side → Clear → Form → Wanted
wanted s c f = record { side = s; clear = c; form = f }

abbrev pub panel_at : Side → ℕ → ℕ → Form → Placed
panel_at s x y f = record { side = s; x = x; y = y; form = f }

abbrev pub Ends : Option Line → ℕ → ℕ → Type 0
Ends None L H = Unit {0}
Ends (Some n) L H = n.top + L ≤ H

pub record Shows (rows : Rows) (m : Span) (n : Option Line) (scene : Scene) : Type 0 where
  pub settled : Settled scene
  pub placed : Tells rows scene.placed
  pub margins : scene.margins ≡ m
  pub current : scene.current ≡ n

pub record BoxInside (rows : Rows) (f : Form) (q : Place) : Type 0 where
  pub right : q.x + f.wide ≤ rows.width
  pub low : q.y + f.tall ≤ rows.height
