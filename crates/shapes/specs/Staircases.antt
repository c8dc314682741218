-- The extents of some steps: past their rows there is none, and steps that fit a width reach no farther. Assumes nothing.
use Rattle.std.specs.Prelude.{◌≡◌, ℕ, ◌+◌, ◌-◌, ◌≤◌, true, cond, List, [], ◌∷◌, nat_le, nat_lt, refl}
use Rattle.std.proofs.Common.{ap, ◌∙◌, arith}
use Rattle.std.proofs.lemmas.List.Sums.{sum_by-cons}
use Rattle.std.proofs.lemmas.Bool.{le-ltb, leb-true, and_parts, cond_both}
use Rattle.shapes.specs.Staircase.{rows_of, extent_at, step_fits, steps_fit}
use Rattle.shapes.specs.declared.stairs.Step.{Step}

pub rows_cons : (s : Step) (ss : List Step) → rows_of (s ∷ ss) ≡ s.rows + rows_of ss
rows_cons s ss = sum_by-cons (λ (x : Step). x.rows) s ss

-- a row below the first step is one of the steps below it
pub row_below : (s : Step) (ss : List Step) (k : ℕ) → s.rows ≤ k → extent_at (s ∷ ss) k ≡ extent_at ss (k - s.rows)
row_below s ss k h = ap (λ b. cond b s.extent (extent_at ss (k - s.rows))) (le-ltb k s.rows h)

pub row_past : (ss : List Step) (k : ℕ) → rows_of ss ≤ k → extent_at ss k ≡ 0
row_past [] k h = refl
row_past (s ∷ ss) k h =
    let e = rows_cons s ss in
    row_below s ss k (omega arith) ∙ row_past ss (k - s.rows) (omega arith)

pub row_within : (w : ℕ) (ss : List Step) (k : ℕ) → steps_fit w ss ≡ true → extent_at ss k ≤ w
row_within w [] k h = omega arith
row_within w (s ∷ ss) k h =
    let p = and_parts (step_fits w s) (steps_fit w ss) h in
    let q = and_parts (nat_le 1 s.rows) (nat_le s.extent w) p.0 in
    cond_both (nat_lt k s.rows) s.extent (extent_at ss (k - s.rows)) (λ e. e ≤ w)
    (λ _. leb-true s.extent w q.1)
    (λ _. row_within w ss (k - s.rows) p.1)
