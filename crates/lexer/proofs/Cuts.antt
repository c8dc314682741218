-- The first line of a file, cut off where the run up to the line end stops. Assumes nothing.
use Rattle.std.proofs.Common.{◌≡◌, ℕ, suc, ◌+◌, ◌<◌, Bool, true, false, cond, not, eqb, ltb, List, [], ◌∷◌, length, take, drop, sym, refl, ap, ◌∙◌, ⊎_elim, one-add, arith}
use Rattle.std.specs.List.{prefix_len}
use Rattle.std.proofs.lemmas.Bool.{lt-ltb, le-ltb, cases_lt}
use Rattle.lexer.specs.Bytes.{line_end, other_than}
use Rattle.lexer.specs.Lines.{FileLine, file_line, file_lines, with_byte}

-- the line of the first n bytes, ended where bytes follow, and the lines after its end
abbrev cut_at : ℕ → List ℕ → List FileLine
cut_at n bs = file_line (take n bs) (ltb n (length bs)) ∷ file_lines (drop (n + 1) bs)

abbrev pub line_length : List ℕ → ℕ
line_length bs = prefix_len (other_than line_end) bs

ltb_suc : (a b : ℕ) → ltb (suc a) (suc b) ≡ ltb a b
ltb_suc a b = ⊎_elim (λ h. lt-ltb _ _ (omega arith) ∙ sym (lt-ltb _ _ h)) (λ h. le-ltb _ _ (omega arith) ∙ sym (le-ltb _ _ h)) (cases_lt a b)

-- one byte more before a line
longer : (b : ℕ) (bs : List ℕ) (n : ℕ) → with_byte b (cut_at n bs) ≡ cut_at (1 + n) (b ∷ bs)
longer b bs n =
    let e : n + 1 ≡ suc n = omega arith in
    let f : suc (suc n) ≡ suc n + 1 = omega arith in
    (λ i. file_line (b ∷ take n bs) (sym (ltb_suc n (length bs)) i) ∷ file_lines (drop (e i) bs))
    ∙ ap (λ k. file_line (b ∷ take n bs) (ltb (suc n) (suc (length bs))) ∷ file_lines (drop k (b ∷ bs))) f
    ∙ ap (λ k. cut_at k (b ∷ bs)) (sym (one-add n))

-- a byte ends the first line, or goes before it
front : (b : ℕ) (bs : List ℕ) → with_byte b (file_lines bs) ≡ cut_at (1 + line_length bs) (b ∷ bs) → file_lines (b ∷ bs) ≡ cut_at (line_length (b ∷ bs)) (b ∷ bs)
front b bs before =
    elim (eqb b line_end) as (λ (v : Bool). cond v (file_line [] true ∷ file_lines bs) (with_byte b (file_lines bs)) ≡ cut_at (cond (not v) (1 + line_length bs) 0) (b ∷ bs))
    [ true ↦ ap (λ t. file_line [] t ∷ file_lines bs) (sym (lt-ltb 0 (suc (length bs)) (omega arith))) | false ↦ before ]

file_lines_cut : (bs : List ℕ) → 0 < length bs → file_lines bs ≡ cut_at (line_length bs) bs
file_lines_cut [] h = absurd (omega arith)
file_lines_cut (b ∷ []) h = front b [] refl
file_lines_cut (b ∷ c ∷ cs) h = front b (c ∷ cs) (ap (with_byte b) (file_lines_cut (c ∷ cs) (omega arith)) ∙ longer b (c ∷ cs) (line_length (c ∷ cs)))

-- the first line, of n bytes, and the lines of what is left behind its end
pub first_line : (bs rest : List ℕ) (n : ℕ) → 0 < length bs → n ≡ line_length bs → rest ≡ drop (n + 1) bs → file_lines bs ≡ file_line (take n bs) (ltb n (length bs)) ∷ file_lines rest
first_line bs rest n some e f = file_lines_cut bs some ∙ ap (λ k. cut_at k bs) (sym e) ∙ ap (λ ls. file_line (take n bs) (ltb n (length bs)) ∷ file_lines ls) (sym f)
