-- Why a sheet file is refused. Assumes nothing.
--     setback e n     the call on the sheet is refused with e, after n words
--     Located         a fault on a line of the file
--     layer_of f      the part that refuses
--     cause_of f      the number of the cause
--     place_of f      the offset in the line of the first bad field or byte, the words set before a refused one, or 0
use Rattle.std.specs.Prelude.{ℕ, ◌+◌, min}
use Rattle.fault_lines.specs.declared.layers.Layer.{Layer}
use Rattle.fault_lines.specs.declared.layers.Layer.TheVariants.{File, Text, Sheet}
use Rattle.fault_lines.specs.declared.locations.Located as locations
use Rattle.lexer.specs.Causes.{cause_number}
use Rattle.rules.specs.declared.refusals.Refusal.{Refusal}
use Rattle.rules.specs.Refusals.{number_of}
use Rattle.text.specs.declared.faults.TextFault.{TextFault}
use Rattle.text.specs.declared.faults.TextFault.TheVariants.{Metrics, Byte, Long as LongText, Memory}
use Rattle.text.specs.Fault as text
use Rattle.items.specs.declared.faults.SheetFault.{SheetFault}
use Rattle.items.specs.declared.faults.FileFault.{FileFault}
use Rattle.items.specs.declared.faults.FileFault.TheVariants.{Form, Extent, Long, Measuring, Refused}

abbrev pub setback : Refusal → ℕ → SheetFault
setback e n = record { refusal = e; words = n }

abbrev pub Located : Type 0
Located = locations.Located FileFault

abbrev pub layer_of : FileFault → Layer
layer_of (Form f) = File
layer_of Extent = File
layer_of Long = File
layer_of (Measuring f) = Text
layer_of (Refused f) = Sheet

abbrev pub cause_of : FileFault → ℕ
cause_of (Form f) = cause_number f.cause
cause_of Extent = 11
cause_of Long = 12
cause_of (Measuring f) = text.cause_of f
cause_of (Refused f) = number_of f.refusal

-- the offset in its line at which a text begins: behind the keyword and a space
abbrev pub text_start : ℕ
text_start = 5

-- a byte of a text is counted from the start of its line, and held at the greatest 64-bit number
abbrev pub text_place : TextFault → ℕ
text_place Metrics = 0
text_place (Byte p) = min (p + text_start) 18446744073709551615
text_place LongText = 0
text_place Memory = 0

abbrev pub place_of : FileFault → ℕ
place_of (Form f) = f.place
place_of Extent = 0
place_of Long = 0
place_of (Measuring f) = text_place f
place_of (Refused f) = f.words
