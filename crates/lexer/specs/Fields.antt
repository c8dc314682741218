-- The fields of a line, parted by one space. Assumes nothing.
--     width line p   how many bytes the field that begins at p has
--     field line p   the field that begins at p; an empty one counts as missing
--     next line p    where the field after the one at p would begin; a missing one is waited for
-- A place of length line + 1 says that no field is left.
use Rattle.std.specs.Prelude.{ℕ, ◌+◌, cond, List, take, drop, Some, None, Option, ◌==◌}
use Rattle.std.specs.List.{prefix_len}
use Rattle.lexer.specs.Bytes.{space, other_than}

-- up to the next space or the end of the line
abbrev pub width : List ℕ → ℕ → ℕ
width line p = prefix_len (other_than space) (drop p line)

unfoldable pub field : List ℕ → ℕ → Option (List ℕ)
field line p = cond (width line p == 0) None (Some (take (width line p) (drop p line)))

unfoldable pub next : List ℕ → ℕ → ℕ
next line p = cond (width line p == 0) p (p + width line p + 1)
