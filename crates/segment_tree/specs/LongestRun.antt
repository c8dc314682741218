-- How far a run of elements goes within a limit. Assumes nothing.
--     Longest none op ok xs a b     b is the end of the longest run from a on whose join is ok
--     OneLongestRun none op fits    there is at most one such end, whatever the limit
use Rattle.std.specs.Prelude.{◌≡◌, ℕ, ◌<◌, ◌≤◌, Bool, true, List, length, ◌≢◌}
use Rattle.segment_tree.specs.Joins.{fold_of}

-- b is the greatest from a to the list's length whose elements a to b - 1 join to what is ok, or a where there is none
pub record Longest {M : Type 0} (none : M) (op : M → M → M) (ok : M → Bool) (xs : List M) (a b : ℕ) : Type 0 where
  pub from : a ≤ b
  pub fine : a < b → (b ≤ length xs) × (ok (fold_of none op xs a b) ≡ true)
  pub most : (k : ℕ) → b < k → k ≤ length xs → ok (fold_of none op xs a k) ≢ true

abbrev pub OneLongestRun : {M L : Type 0} → M → (M → M → M) → (M → L → Bool) → Type 0
OneLongestRun {M} {L} none op fits =
    (l : L) (xs : List M) (a b c : ℕ) → Longest none op (λ x. fits x l) xs a b → Longest none op (λ x. fits x l) xs a c → b ≡ c
