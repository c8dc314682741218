-- The lines of a file. Assumes nothing.
--     FileLine       a line: its bytes, and whether the byte line_end ends it
--     file_lines f   the lines of the file f
--     written ls     the file that has the lines ls
--     Lined ls       no line holds a line end; all are ended but perhaps the last, and an unended one is not empty
--     LinesStand     file_lines f is the one list that is Lined and is written f
use Rattle.std.specs.Prelude.{◌≡◌, ℕ, ◌<◌, Bool, true, false, cond, List, [], ◌∷◌, ◌++◌, length, ◌==◌, ◌≢◌}
use Rattle.std.specs.List.{AllByRecursion}
use Rattle.lexer.specs.Bytes.{line_end}

pub record FileLine : Type 0 where
  pub bytes : List ℕ
  pub ended : Bool

abbrev pub file_line : List ℕ → Bool → FileLine
file_line bs e = record { bytes = bs; ended = e }

-- one byte more before the first line
abbrev pub with_byte : ℕ → List FileLine → List FileLine
with_byte b [] = file_line (b ∷ []) false ∷ []
with_byte b (l ∷ ls) = file_line (b ∷ l.bytes) l.ended ∷ ls

abbrev pub file_lines : List ℕ → List FileLine
file_lines [] = []
file_lines (b ∷ bs) = cond (b == line_end) (file_line [] true ∷ file_lines bs) (with_byte b (file_lines bs))

-- the line end where there is one, and then the rest
abbrev pub ended_by : Bool → List ℕ → List ℕ
ended_by e rest = cond e (line_end ∷ rest) rest

abbrev pub written : List FileLine → List ℕ
written [] = []
written (l ∷ ls) = l.bytes ++ ended_by l.ended (written ls)

-- no byte among these is a line end
abbrev pub Unbroken : List ℕ → Type 0
Unbroken bs = AllByRecursion (λ b. b ≢ line_end) bs

abbrev pub Lined : List FileLine → Type 0
Lined [] = Unit {0}
Lined (l ∷ []) = Unbroken l.bytes × (l.ended ≡ false → 0 < length l.bytes)
Lined (l ∷ m ∷ ls) = Unbroken l.bytes × (l.ended ≡ true) × Lined (m ∷ ls)

pub record LinesStand : Type 0 where
  pub lined : (file : List ℕ) → Lined (file_lines file)
  pub back : (file : List ℕ) → written (file_lines file) ≡ file
  pub only : (ls : List FileLine) → Lined ls → file_lines (written ls) ≡ ls
