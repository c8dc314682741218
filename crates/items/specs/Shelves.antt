-- The shapes that a file names. Assumes nothing.
--     most_shapes    how many a file may name
--     kept s         those that a shelf keeps, in their order
--     with_form f fs   the shapes fs with f behind them, where there is room for one more
--     form_of o      the form of the staircase o, if there is one
use Rattle.std.specs.Prelude.{ℕ, cond, List, [], ◌∷◌, ◌++◌, map, length, take, Some, None, Option, nat_lt}
use Rattle.shapes.specs.declared.stairs.Stairs.{Stairs}
use Rattle.shapes.specs.Form.{Form}
use Rattle.shapes.specs.Models.{stairs_model}
use Rattle.items.specs.declared.shelves.Shelf.{Shelf}

abbrev pub most_shapes : ℕ
most_shapes = 16

abbrev pub kept : Shelf → List Form
kept s = map stairs_model (take s.count s.stairs)

abbrev pub with_form : Form → List Form → List Form
with_form f fs = cond (nat_lt (length fs) most_shapes) (fs ++ (f ∷ [])) fs

abbrev pub form_of : Option Stairs → Option Form
form_of (Some s) = Some (stairs_model s)
form_of None = None
