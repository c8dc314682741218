-- The plain box: it reaches in by its whole width on each of its rows. Assumes nothing.
--     box_form w p   the box of width w and height p
--     make_box w p   the same where w and p are in range, else None
use Rattle.std.specs.Prelude.{ℕ, cond, ◌&&◌, Some, None, Option, nat_lt}
use Rattle.shapes.specs.Form.{Form}
use Rattle.shapes.specs.Made.{in_range}

abbrev pub box_form : ℕ → ℕ → Form
box_form w p = record { wide = w; tall = p; extent = λ k. cond (nat_lt k p) w 0 }

abbrev pub make_box : ℕ → ℕ → Option Form
make_box w p = cond (in_range w && in_range p) (Some (box_form w p)) None
