-- The extent of each row of some steps is that of the one step that it lies in. Assumes nothing.
use Rattle.std.proofs.Common.{◌≡◌, ℕ, zero, suc, ◌-◌, ◌<◌, ◌≤◌, cond, List, [], ◌∷◌, get_or, take, ap, ◌∙◌, ⊎_elim, arith, refl}
use Rattle.std.proofs.lemmas.Bool.{cases_lt, lt-ltb}
use Rattle.shapes.specs.Staircase.{rows_of, extent_at}
use Rattle.shapes.specs.Staircases.{rows_cons, row_below, row_past}
use Rattle.shapes.specs.Theorems.{no_step, InStep, RowHasItsStep}
use Rattle.shapes.specs.declared.stairs.Step.{Step}

-- a row of the first step has its extent
row_above : (s : Step) (ss : List Step) (k : ℕ) → k < s.rows → extent_at (s ∷ ss) k ≡ s.extent
row_above s ss k h = ap (λ b. cond b s.extent (extent_at ss (k - s.rows))) (lt-ltb k s.rows h)

-- step i + 1 of all the steps is step i of those below the first
lower : (s : Step) (ss : List Step) (i k : ℕ) → InStep (s ∷ ss) (suc i) k → InStep ss i (k - s.rows)
lower s ss i k h =
    let e = rows_cons s (take i ss) in
    record { there = omega (arith, h.there); begun = omega (arith, h.begun); ended = omega (arith, h.begun, h.ended) }

raise : (s : Step) (ss : List Step) (i k : ℕ) → s.rows ≤ k → InStep ss i (k - s.rows) → InStep (s ∷ ss) (suc i) k
raise s ss i k le h =
    let e = rows_cons s (take i ss) in
    record { there = omega (arith, h.there); begun = omega (arith, h.begun); ended = omega (arith, h.begun, h.ended) }

below_first : (s : Step) (ss : List Step) (i k : ℕ) → InStep (s ∷ ss) (suc i) k → s.rows ≤ k
below_first s ss i k h = let e = rows_cons s (take i ss) in omega (arith, h.begun)

row_in_some : (ss : List Step) (k : ℕ) → k < rows_of ss → (i : ℕ) × InStep ss i k
row_in_some [] k h = let stop : ⊥ = omega arith in absurd stop
row_in_some (s ∷ ss) k h =
    let e = rows_cons s ss in
    ⊎_elim
    (λ lt. (0, record { there = omega arith; begun = omega arith; ended = omega arith }))
    (λ le. let r = row_in_some ss (k - s.rows) (omega arith) in (suc r.0, raise s ss r.0 k le r.1))
    (cases_lt k s.rows)

row_in_one : (ss : List Step) (k i j : ℕ) → InStep ss i k → InStep ss j k → i ≡ j
row_in_one [] k i j p q = let stop : ⊥ = omega (arith, p.there) in absurd stop
row_in_one (s ∷ ss) k zero zero p q = refl
row_in_one (s ∷ ss) k zero (suc j) p q =
    let le = below_first s ss j k q in
    let stop : ⊥ = omega (arith, p.ended) in absurd stop
row_in_one (s ∷ ss) k (suc i) zero p q =
    let le = below_first s ss i k p in
    let stop : ⊥ = omega (arith, q.ended) in absurd stop
row_in_one (s ∷ ss) k (suc i) (suc j) p q =
    ap suc (row_in_one ss (k - s.rows) i j (lower s ss i k p) (lower s ss j k q))

row_has : (ss : List Step) (k i : ℕ) → InStep ss i k → extent_at ss k ≡ (get_or ss i no_step).extent
row_has [] k i h = refl
row_has (s ∷ ss) k zero h = row_above s ss k (omega (arith, h.ended))
row_has (s ∷ ss) k (suc i) h =
    row_below s ss k (below_first s ss i k h) ∙ row_has ss (k - s.rows) i (lower s ss i k h)

pub rows_have_steps : (ss : List Step) (k : ℕ) → RowHasItsStep ss k
rows_have_steps ss k =
    record { some = row_in_some ss k; one = row_in_one ss k; has = row_has ss k; past = row_past ss k }
