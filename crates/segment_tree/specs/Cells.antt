-- When the cells of a tree agree, and the elements that they stand for. Assumes nothing.
--     Sums none op q cells    each inner cell is the join of the two below it, for q leaves
--     Agrees none op q cells  so it is, and there are two cells for each leaf
--     leaves q n cells        the first n leaves
--     sums_prop               that the inner cells are such joins can be said in one way only
use Rattle.std.specs.Prelude.{◌≡◌, ℕ, ◌+◌, ◌*◌, ◌<◌, ◌≤◌, List, length, take, drop, slice_index_or}
use Rattle.std.specs.Coded.{Π_prop}

abbrev pub Sums : {M : Type 0} → M → (M → M → M) → ℕ → List M → Type 0
Sums none op q cells =
    (k : ℕ) → 0 < k → k < q → slice_index_or cells k none ≡ op (slice_index_or cells (2 * k) none) (slice_index_or cells (2 * k + 1) none)

pub record Agrees {M : Type 0} (none : M) (op : M → M → M) (q : ℕ) (cells : List M) : Type 0 where
  pub long : 2 * q ≤ length cells
  pub sums : Sums none op q cells

abbrev pub leaves : {M : Type 0} → ℕ → ℕ → List M → List M
leaves q n cells = take n (drop q cells)

pub sums_prop : {M : Type 0} (none : M) (op : M → M → M) (q : ℕ) (cells : List M) → ((x y : M) → IsProp (x ≡ y)) → IsProp (Sums none op q cells)
sums_prop none op q cells one = Π_prop (λ k. Π_prop (λ p. Π_prop (λ h. one (slice_index_or cells k none) (op (slice_index_or cells (2 * k) none) (slice_index_or cells (2 * k + 1) none)))))
