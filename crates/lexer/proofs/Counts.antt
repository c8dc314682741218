-- How many lines a file has. Assumes nothing.
use Rattle.std.proofs.Common.{ℕ, ◌+◌, ◌≤◌, Bool, true, false, cond, eqb, List, [], ◌∷◌, length, arith}
use Rattle.lexer.specs.Bytes.{line_end}
use Rattle.lexer.specs.Lines.{FileLine, file_line, file_lines, with_byte}

length_with_byte : (b : ℕ) (ls : List FileLine) → length (with_byte b ls) ≤ 1 + length ls
length_with_byte b [] = omega arith
length_with_byte b (l ∷ ls) = omega arith

-- a file has no more lines than bytes
pub length_file_lines : (file : List ℕ) → length (file_lines file) ≤ length file
length_file_lines [] = omega arith
length_file_lines (b ∷ bs) =
    let rest = length_file_lines bs in
    let more = length_with_byte b (file_lines bs) in
    let P : Bool → Type 0 = λ t. length (cond t (file_line [] true ∷ file_lines bs) (with_byte b (file_lines bs))) ≤ length (b ∷ bs) in
    elim (eqb b line_end) as P [ true ↦ omega arith | false ↦ omega arith ]
