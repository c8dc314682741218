-- The names of the layers. Assumes nothing.
--     layer_word l   the word for the layer l
use Rattle.std.specs.Prelude.{ℕ, List, codes}
use Rattle.fault_lines.specs.declared.layers.Layer.{Layer}
use Rattle.fault_lines.specs.declared.layers.Layer.TheVariants.{File, Text, Sheet}

abbrev pub layer_word : Layer → List ℕ
layer_word File = codes "file"
layer_word Text = codes "text"
layer_word Sheet = codes "sheet"
