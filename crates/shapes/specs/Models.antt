-- The shapes of this crate as forms. Assumes nothing.
--     plain_model b    a plain box
--     stairs_model s   a staircase
use Rattle.shapes.specs.declared.plain.Plain.{Plain}
use Rattle.shapes.specs.declared.stairs.Stairs.{Stairs}
use Rattle.shapes.specs.Form.{Form}
use Rattle.shapes.specs.Box.{box_form}
use Rattle.shapes.specs.Staircase.{stairs_form}
use Rattle.shapes.specs.Steps.{steps_in}

abbrev pub plain_model : Plain → Form
plain_model b = box_form b.width b.height

abbrev pub stairs_model : Stairs → Form
stairs_model s = stairs_form s.width (steps_in s.steps)
