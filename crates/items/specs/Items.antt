-- The call on the sheet that the line of an item asks for. Assumes nothing.
--     call_of adv fs records cells i     what the item i asks for, where adv gives the advance of each byte, the file names
--                                        the shapes fs, and a text is measured into so many records and cells
--     item_call adv fs records cells l   what the item on the line l asks for, or why it asks for nothing
use Rattle.std.specs.Prelude.{ℕ, List, length, Result}
use Rattle.std.specs.List.{slice_get}
use Rattle.lexer.specs.Lines.{FileLine}
use Rattle.lines.specs.Items.{ItemForm, text, plain, shaped, item_form}
use Rattle.shapes.specs.Form.{Form}
use Rattle.shapes.specs.Box.{make_box}
use Rattle.rules.specs.Runs.{Call}
use Rattle.items.specs.declared.faults.FileFault.{FileFault}
use Rattle.items.specs.declared.faults.FileFault.TheVariants.{Form as BadForm}
use Rattle.items.specs.Calls.{text_call, panel_call}
use Rattle.items.specs.Onward.{onward}

abbrev pub call_of : (ℕ → ℕ) → List Form → ℕ → ℕ → ItemForm → Result Call FileFault
call_of adv fs records cells (text bytes) = text_call adv records cells bytes
call_of adv fs records cells (plain b) = panel_call b.side b.clear (make_box b.width b.height)
call_of adv fs records cells (shaped s) = panel_call s.side s.clear (slice_get fs s.index)

unfoldable pub item_call : (ℕ → ℕ) → List Form → ℕ → ℕ → FileLine → Result Call FileFault
item_call adv fs records cells l = onward BadForm (item_form (length fs) l) (call_of adv fs records cells)
