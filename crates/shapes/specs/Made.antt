-- What a constructor of shapes answers: a shape of one form, or the refusal. Assumes nothing.
--     in_range n       n can be a width or a height
--     answered f r     the form of the shape in r, by the model f, and None where r refuses
use Rattle.std.specs.Prelude.{ℕ, Bool, ◌&&◌, Some, None, Ok, Err, Option, Result, nat_le}
use Rattle.shapes.specs.declared.NoShape.{NoShape}
use Rattle.shapes.specs.Form.{Form, most_units}

abbrev pub in_range : ℕ → Bool
in_range n = nat_le 1 n && nat_le n most_units

abbrev pub answered : {S : Type 0} → (S → Form) → Result S NoShape → Option Form
answered model (Ok s) = Some (model s)
answered model (Err e) = None
