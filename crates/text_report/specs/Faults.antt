-- How a fault is told: its layer, its line, its cause and its place. Assumes nothing.
--     layer_of f      the layer that refuses
--     cause_of f      the number of the cause
--     place_of f      the offset in the line, or 0
--     Located         a fault on a line of the file
--     fault_line x    the line that is printed of a fault
use Rattle.std.specs.Prelude.{ℕ, List}
use Rattle.fault_lines.specs.Tellings as tellings
use Rattle.fault_lines.specs.declared.layers.Layer.{Layer}
use Rattle.fault_lines.specs.declared.layers.Layer.TheVariants.{File, Text}
use Rattle.fault_lines.specs.declared.locations.Located as locations
use Rattle.lexer.specs.Causes.{cause_number}
use Rattle.text.specs.Fault as text
use Rattle.text_report.specs.declared.faults.FileFault.{FileFault}
use Rattle.text_report.specs.declared.faults.FileFault.TheVariants.{Form, Measuring, NoMetric}

abbrev pub layer_of : FileFault → Layer
layer_of (Form _) = File
layer_of (Measuring _) = Text
layer_of NoMetric = File

abbrev pub cause_of : FileFault → ℕ
cause_of (Form f) = cause_number f.cause
cause_of (Measuring f) = text.cause_of f
cause_of NoMetric = 11

abbrev pub place_of : FileFault → ℕ
place_of (Form f) = f.place
place_of (Measuring f) = text.place_of f
place_of NoMetric = 0

abbrev pub Located : Type 0
Located = locations.Located FileFault

abbrev pub fault_line : Located → List ℕ
fault_line x = tellings.fault_line (tellings.told (layer_of x.fault) x.line (cause_of x.fault) (place_of x.fault))
