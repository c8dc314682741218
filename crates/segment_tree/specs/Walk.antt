-- What is known on the way to the end of a longest run. Assumes nothing.
--     Held none op ok size n cells a at node width joined  the walk from leaf a has come to leaf `at`, the first of the
--                                                          `width` leaves below `node`; what it passed is joined, and ok
--     Stuck none op ok size n cells a at width             the next `width` leaves would be too much
use Rattle.std.specs.Prelude.{◌≡◌, ℕ, ◌+◌, ◌*◌, ◌^◌, ◌≤◌, Bool, true, List, ◌≢◌}
use Rattle.segment_tree.specs.Joins.{fold_of}

pub record Held {M : Type 0} (none : M) (op : M → M → M) (ok : M → Bool) (size n : ℕ) (cells : List M) (a at node width : ℕ) (joined : M) : Type 0 where
  pub pow : (k : ℕ) × (width ≡ 2 ^ k)
  pub place : node * width ≡ size + at
  pub from : a ≤ at
  pub top : at ≤ n
  pub is : joined ≡ fold_of none op cells (size + a) (size + at)
  pub fine : ok joined ≡ true

abbrev pub Stuck : {M : Type 0} → M → (M → M → M) → (M → Bool) → ℕ → ℕ → List M → ℕ → ℕ → ℕ → Type 0
Stuck none op ok size n cells a at width =
    at + width ≤ n → ok (fold_of none op cells (size + a) (size + (at + width))) ≢ true
