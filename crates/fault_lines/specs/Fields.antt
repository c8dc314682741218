-- The fields of a printed line. Assumes nothing.
--     field n     a space and then the number n
--     fields ns   a field for each of the numbers ns, and then the line end
use Rattle.std.specs.Prelude.{ℕ, List, [], ◌∷◌, ◌++◌, decimal}
use Rattle.std.specs.List.{flat_map}
use Rattle.lexer.specs.Bytes.{space, line_end}

abbrev pub field : ℕ → List ℕ
field n = space ∷ decimal n

abbrev pub fields : List ℕ → List ℕ
fields ns = flat_map field ns ++ (line_end ∷ [])
