-- The call on the sheet that a line of a paragraph asks for. Assumes nothing.
--     advances_of adv text            the advances of the text's words, where adv gives the advance of each byte
--     text_call adv words runs text   setting the text, unless measuring it into so many records and cells is refused
--     panel_call side clear o         placing a panel of the form o, unless there is none
use Rattle.std.specs.Prelude.{ℕ, List, map, Some, None, Ok, Err, Option, Result}
use Rattle.shapes.specs.declared.sides.Side.{Side}
use Rattle.shapes.specs.declared.sides.Clear.{Clear}
use Rattle.shapes.specs.Form.{Form}
use Rattle.rows.specs.Asked.{wanted}
use Rattle.rules.specs.declared.refusals.Refusal.TheVariants.{NoShape}
use Rattle.rules.specs.Runs.{Call, flows, panels}
use Rattle.text.specs.declared.faults.TextFault.{TextFault}
use Rattle.text.specs.Fault.{text_fault}
use Rattle.text.specs.Measure.{measured, space_byte}
use Rattle.items.specs.declared.faults.FileFault.{FileFault}
use Rattle.items.specs.declared.faults.FileFault.TheVariants.{Measuring, Refused}
use Rattle.items.specs.Faults.{setback}

abbrev pub advances_of : (ℕ → ℕ) → List ℕ → List ℕ
advances_of adv text = map (λ w. w.advance) (measured adv text)

abbrev pub unless : Option TextFault → Call → Result Call FileFault
unless (Some f) c = Err (Measuring f)
unless None c = Ok c

abbrev pub text_call : (ℕ → ℕ) → ℕ → ℕ → List ℕ → Result Call FileFault
text_call adv words runs text = unless (text_fault text words runs) (flows (advances_of adv text) (adv space_byte) 0)

abbrev pub panel_call : Side → Clear → Option Form → Result Call FileFault
panel_call s c (Some f) = Ok (panels (wanted s c f))
panel_call s c None = Err (Refused (setback NoShape 0))
