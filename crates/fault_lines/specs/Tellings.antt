-- What is told of a fault. Assumes nothing.
--     told l n c p   the layer l refuses line n for the cause of number c, at the place p
--     fault_line f   the line that is printed of a fault: its layer, its line, its cause and its place
use Rattle.std.specs.Prelude.{ℕ, List, [], ◌∷◌, ◌++◌, codes}
use Rattle.fault_lines.specs.Fields.{fields}
use Rattle.fault_lines.specs.Layers.{layer_word}
use Rattle.fault_lines.specs.declared.layers.Layer.{Layer}
use Rattle.fault_lines.specs.declared.tellings.FaultLine.{FaultLine}

abbrev pub told : Layer → ℕ → ℕ → ℕ → FaultLine
told l n c p = record { layer = l; line = n; cause = c; place = p }

abbrev pub fault_line : FaultLine → List ℕ
fault_line f = codes "fault " ++ (layer_word f.layer ++ fields (f.line ∷ f.cause ∷ f.place ∷ []))
