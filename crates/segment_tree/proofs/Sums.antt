-- What an inner cell is while the cells are joined anew. Assumes nothing.
use Rattle.std.proofs.Common.{◌≡◌, ℕ, ◌+◌, ◌*◌, List, get_or}

-- the inner cell k is the join of the two below it
abbrev pub SumAt : {M : Type 0} → M → (M → M → M) → List M → ℕ → Type 0
SumAt none op cs k = get_or cs k none ≡ op (get_or cs (2 * k) none) (get_or cs (2 * k + 1) none)
