-- The field at a place: missing, or found by the run up to the next space. Assumes nothing.
use Rattle.std.proofs.Common.{◌≡◌, ℕ, ◌+◌, ◌<◌, List, length, take, drop, Some, None, sym, ap, ◌∙◌, arith}
use Rattle.std.specs.List.{prefix_len, slice_range}
use Rattle.std.proofs.lemmas.List.{take_rest}
use Rattle.std.proofs.lemmas.List.Sums.{prefix_len-drop_all}
use Rattle.std.proofs.lemmas.Bool.{cond-true, cond-false, eq-eqb, ne_eqb}
use Rattle.lexer.specs.Bytes.{space, other_than}
use Rattle.lexer.specs.Fields.{width, field, next}

module _ (line : List ℕ) (p : ℕ) where
  pub width_past : length line < p → width line p ≡ 0
  width_past h = prefix_len-drop_all (other_than space) line p (omega arith)

  pub field_missing : width line p ≡ 0 → (None ≡ field line p) × (p ≡ next line p)
  unfolding field next
  field_missing e =
      let t = eq-eqb _ _ e in
      (sym (cond-true _ _ _ t), sym (cond-true _ _ _ t))

  -- where rest is what the line has from the place on
  module _ (rest : List ℕ) (part : rest ≡ slice_range line p (length line)) where
    whole : rest ≡ drop p line
    whole = part ∙ take_rest line p

    pub width_rest : prefix_len (other_than space) rest ≡ width line p
    width_rest = ap (prefix_len (other_than space)) whole

    pub field_there : (n : ℕ) → n ≡ width line p → (n ≡ 0 → ⊥) → (Some (take n rest) ≡ field line p) × (p + (n + 1) ≡ next line p)
    unfolding field next
    field_there n e some =
        let t = ne_eqb (width line p) 0 (λ z. some (e ∙ z)) in
        let f : field line p ≡ Some (take (width line p) (drop p line)) = cond-false _ _ _ t in
        let g : next line p ≡ p + width line p + 1 = cond-false _ _ _ t in
        (ap (λ bs. Some (take n bs)) whole ∙ rw e (sym f), omega arith)
