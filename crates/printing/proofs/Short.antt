-- The line of a fault is short. Assumes nothing.
use Rattle.std.proofs.Common.{◌≡◌, ℕ, ◌+◌, ◌^◌, ◌<◌, ◌≤◌, [], ◌∷◌, ◌++◌, length, arith}
use Rattle.lexer.specs.Bytes.{line_end}
use Rattle.std.specs.List.{flat_map}
use Rattle.std.proofs.lemmas.Fmt.{length-decimal-le}
use Rattle.std.proofs.lemmas.List.{length-append}
use Rattle.fault_lines.specs.Layers.{layer_word}
use Rattle.fault_lines.specs.Tellings.{fault_line}
use Rattle.fault_lines.specs.Fields.{field}
use Rattle.fault_lines.specs.declared.tellings.FaultLine.{FaultLine}
use Rattle.fault_lines.specs.declared.layers.Layer.{Layer}
use Rattle.fault_lines.specs.declared.layers.Layer.TheVariants.{File, Text, Sheet}

field_short : (n : ℕ) → n < 2 ^ 64 → length (field n) ≤ 21
field_short n h = let e = length-decimal-le 20 n (omega arith) (omega arith) h in omega arith

word_short : (l : Layer) → length (layer_word l) ≤ 5
word_short File = omega arith
word_short Text = omega arith
word_short Sheet = omega arith

pub fault_short : (f : FaultLine) → f.line < 2 ^ 64 → f.cause < 2 ^ 64 → f.place < 2 ^ 64 → length (fault_line f) ≤ 75
fault_short f a b c =
    let end = line_end ∷ [] in
    let last = flat_map field (f.place ∷ []) in
    let later = flat_map field (f.cause ∷ f.place ∷ []) in
    let all = flat_map field (f.line ∷ f.cause ∷ f.place ∷ []) in
    let w = word_short f.layer in
    let x = field_short f.line a in
    let y = field_short f.cause b in
    let z = field_short f.place c in
    let p : length last ≡ length (field f.place) + 0 = length-append (field f.place) [] in
    let q : length later ≡ length (field f.cause) + length last = length-append (field f.cause) last in
    let r : length all ≡ length (field f.line) + length later = length-append (field f.line) later in
    let s : length (all ++ end) ≡ length all + 1 = length-append all end in
    let t = length-append (layer_word f.layer) (all ++ end) in
    omega arith
