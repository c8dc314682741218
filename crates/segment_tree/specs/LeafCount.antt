-- How many leaves a tree of n elements has. Assumes nothing.
--     LeastPower n p    p is the least power of two not below n
--     leaf_count n      computes it
--     LeafCountIsLeast  that it does, and that there is no other
use Rattle.std.specs.Prelude.{◌≡◌, ℕ, zero, suc, ◌*◌, ◌^◌, ◌≤◌, cond, nat_le}

pub record LeastPower (n p : ℕ) : Type 0 where
  pub power : (k : ℕ) × (p ≡ 2 ^ k)
  pub above : n ≤ p
  pub least : (k : ℕ) → n ≤ 2 ^ k → p ≤ 2 ^ k

-- p, doubled until it is not below n, but no more than so many times
abbrev pub doubled : ℕ → ℕ → ℕ → ℕ
doubled zero n p = p
doubled (suc times) n p = cond (nat_le n p) p (doubled times n (2 * p))

-- n doublings of 1 are always enough
abbrev pub leaf_count : ℕ → ℕ
leaf_count n = doubled n n 1

abbrev pub LeafCountIsLeast : Type 0
LeafCountIsLeast = (n : ℕ) → LeastPower n (leaf_count n) × ((p : ℕ) → LeastPower n p → p ≡ leaf_count n)
