-- What a kind of element is, and what a row of elements comes to. Assumes nothing.
--     Laws none op fits      op joins in order, none is empty, and what is left of a fitting join fits
--     total none op xs       the join of all of xs, in order
--     part xs a b            the elements a to b - 1
--     fold_of none op xs a b the join of the elements a to b - 1
use Rattle.std.specs.Prelude.{◌≡◌, ℕ, ◌-◌, Bool, true, List, [], ◌∷◌, take, drop}

-- the laws of a kind of element
pub record Laws {M L : Type 0} (none : M) (op : M → M → M) (fits : M → L → Bool) : Type 0 where
  -- how a row is bracketed makes no difference
  pub associative : (x y z : M) → op (op x y) z ≡ op x (op y z)
  -- the empty element changes nothing, on either side
  pub left_neutral : (x : M) → op none x ≡ x
  pub right_neutral : (x : M) → op x none ≡ x
  -- where a row is within a limit, so is each row that it begins with
  pub begins_within : (p q : M) (l : L) → fits (op p q) l ≡ true → fits p l ≡ true

abbrev pub total : {M : Type 0} → M → (M → M → M) → List M → M
total none op [] = none
total none op (x ∷ xs) = op x (total none op xs)

-- where b is past the end, those up to the end; where b is not above a, or a is past the end, none
abbrev pub part : {M : Type 0} → List M → ℕ → ℕ → List M
part xs a b = take (b - a) (drop a xs)

abbrev pub fold_of : {M : Type 0} → M → (M → M → M) → List M → ℕ → ℕ → M
fold_of none op xs a b = total none op (part xs a b)
