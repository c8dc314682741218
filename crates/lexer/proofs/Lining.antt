-- The lines of a file are the one way to part it at its line ends. Assumes nothing.
use Rattle.std.proofs.Common.{◌≡◌, ℕ, ◌<◌, Bool, true, false, eqb, List, [], ◌∷◌, ◌++◌, length, sym, refl, ap, ◌∙◌, arith}
use Rattle.std.proofs.lemmas.Bool.{cond-false, cond_both, ne_eqb, eqb-true, eqb-false, true≢false}
use Rattle.lexer.specs.Bytes.{line_end}
use Rattle.lexer.specs.Lines.{FileLine, file_line, file_lines, with_byte, ended_by, written, Unbroken, Lined, LinesStand}

written_with_byte : (b : ℕ) (ls : List FileLine) → written (with_byte b ls) ≡ b ∷ written ls
written_with_byte b [] = refl
written_with_byte b (l ∷ ls) = refl

written_back : (file : List ℕ) → written (file_lines file) ≡ file
written_back [] = refl
written_back (b ∷ bs) =
    cond_both (eqb b line_end) (file_line [] true ∷ file_lines bs) (with_byte b (file_lines bs)) (λ ls. written ls ≡ b ∷ bs)
    (λ e. λ i. sym (eqb-true b line_end e) i ∷ written_back bs i)
    (λ _. written_with_byte b (file_lines bs) ∙ ap (λ rest. b ∷ rest) (written_back bs))

lined_end : (ls : List FileLine) → Lined ls → Lined (file_line [] true ∷ ls)
lined_end [] h = (tt, λ e. absurd (true≢false e))
lined_end (l ∷ ls) h = (tt, refl, h)

lined_byte : (b : ℕ) (ls : List FileLine) → (b ≡ line_end → ⊥) → Lined ls → Lined (with_byte b ls)
lined_byte b [] inside h = ((inside, tt), λ _. omega arith)
lined_byte b (l ∷ []) inside h = ((inside, h.0), λ _. omega arith)
lined_byte b (l ∷ m ∷ ls) inside h = ((inside, h.0), h.1, h.2)

all_lined : (file : List ℕ) → Lined (file_lines file)
all_lined [] = tt
all_lined (b ∷ bs) =
    cond_both (eqb b line_end) (file_line [] true ∷ file_lines bs) (with_byte b (file_lines bs)) Lined
    (λ _. lined_end (file_lines bs) (all_lined bs))
    (λ e. lined_byte b (file_lines bs) (eqb-false b line_end e) (all_lined bs))

-- a line is read up to its end, or up to the file's
ended_line : (bs rest : List ℕ) → Unbroken bs → file_lines (bs ++ line_end ∷ rest) ≡ file_line bs true ∷ file_lines rest
ended_line [] rest h = refl
ended_line (b ∷ bs) rest h = cond-false _ _ _ (ne_eqb b line_end h.0) ∙ ap (with_byte b) (ended_line bs rest h.1)

last_line : (bs : List ℕ) → Unbroken bs → 0 < length bs → file_lines (bs ++ []) ≡ file_line bs false ∷ []
last_line [] h some = absurd (omega arith)
last_line (b ∷ []) h some = cond-false _ _ _ (ne_eqb b line_end h.0)
last_line (b ∷ c ∷ cs) h some = cond-false _ _ _ (ne_eqb b line_end h.0) ∙ ap (with_byte b) (last_line (c ∷ cs) h.1 (omega arith))

one_line : (bs : List ℕ) (e : Bool) → Unbroken bs → (e ≡ false → 0 < length bs) → file_lines (bs ++ ended_by e []) ≡ file_line bs e ∷ []
one_line bs true h some = ended_line bs [] h
one_line bs false h some = last_line bs h (some refl)

only_lined : (ls : List FileLine) → Lined ls → file_lines (written ls) ≡ ls
only_lined [] h = refl
only_lined (l ∷ []) h = one_line l.bytes l.ended h.0 h.1
only_lined (l ∷ m ∷ ls) h =
    ap (λ e. file_lines (l.bytes ++ ended_by e (written (m ∷ ls)))) h.1
    ∙ ended_line l.bytes (written (m ∷ ls)) h.0
    ∙ (λ i. file_line l.bytes (sym h.1 i) ∷ only_lined (m ∷ ls) h.2 i)

pub lines_stand : LinesStand
lines_stand = record { lined = all_lined; back = written_back; only = only_lined }
