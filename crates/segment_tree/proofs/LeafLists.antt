-- The leaves of a tree as a list of elements. Assumes nothing.
use Rattle.std.proofs.Common.{◌≡◌, ℕ, ◌+◌, ◌-◌, ◌*◌, ◌<◌, ◌≤◌, min, Bool, List, length, get_or, take, drop, set, replicate, sym, ap, ◌∙◌, ⊎_elim, arith, length-drop, length-take, get_or-drop, take_all, get_or-take, take-take, drop-drop, drop-set-lt, ext_get_or}
use lib.ListN.{length-replicate, get_or-replicate}
use lib.Seq.{take-set-lt}
use Rattle.std.proofs.lemmas.List.{drop-take}
use Rattle.std.proofs.lemmas.Bool.{cases_lt}
use Rattle.segment_tree.specs.Joins.{Laws, part}
use Rattle.segment_tree.specs.Cells.{Agrees, leaves}

pub length_leaves : {M : Type 0} (q n : ℕ) (cs : List M) → 2 * q ≤ length cs → n ≤ q → length (leaves q n cs) ≡ n
length_leaves q n cs long few = length-take n (drop q cs) ∙ let d = length-drop q cs in let r : min n (length (drop q cs)) ≡ n = omega arith in r

-- a part of the leaves is a part of the cells
pub part_leaves : {M : Type 0} (q n : ℕ) (cs : List M) (a b : ℕ) → b ≤ n → part (leaves q n cs) a b ≡ part cs (q + a) (q + b)
part_leaves q n cs a b h =
    let e2 : q + b - (q + a) ≡ b - a = omega arith in
    ⊎_elim
    (λ lt.
    let e1 : n ≡ a + (n - a) = omega arith in
    ap (λ x. take (b - a) (drop a (take x (drop q cs)))) e1
    ∙ ap (take (b - a)) (drop-take a (n - a) (drop q cs))
    ∙ take-take (b - a) (n - a) (drop a (drop q cs)) (omega arith)
    ∙ ap (take (b - a)) (drop-drop a q cs)
    ∙ ap (λ x. take x (drop (q + a) cs)) (sym e2))
    (λ le.
    let z : b - a ≡ 0 = omega arith in
    ap (λ x. take x (drop a (take n (drop q cs)))) z ∙ sym (ap (λ x. take x (drop (q + a) cs)) (e2 ∙ z)))
    (cases_lt a b)

-- an end past the list's is the list's
pub part_min : {M : Type 0} (xs : List M) (a b n : ℕ) → length xs ≡ n → part xs a b ≡ part xs a (min b n)
part_min xs a b n e =
    ⊎_elim
    (λ lt. let m : b ≡ min b n = omega arith in ap (λ x. take (x - a) (drop a xs)) m)
    (λ le.
    let m : n ≡ min b n = omega arith in
    let d = length-drop a xs in
    take_all (b - a) (drop a xs) (omega arith) ∙ sym (take_all (n - a) (drop a xs) (omega arith)) ∙ ap (λ x. take (x - a) (drop a xs)) m)
    (cases_lt b n)

-- leaf i set is element i set
pub leaves_set : {M : Type 0} (q n i : ℕ) (cs ds : List M) (e : M) → i < n → drop q ds ≡ set (drop q cs) i e → leaves q n ds ≡ set (leaves q n cs) i e
leaves_set q n i cs ds e h same = ap (take n) same ∙ take-set-lt n (drop q cs) i e h

-- what stands past the leaves is past the cells from q on, too
pub rest_of : {M : Type 0} (q : ℕ) (cs : List M) → drop (2 * q) cs ≡ drop q (drop q cs)
rest_of q cs = let e : 2 * q ≡ q + q = omega arith in ap (λ x. drop x cs) e ∙ sym (drop-drop q q cs)

pub rest_set : {M : Type 0} (q i : ℕ) (cs ds : List M) (e : M) → i < q → drop q ds ≡ set (drop q cs) i e → drop (2 * q) ds ≡ drop (2 * q) cs
rest_set q i cs ds e h same = rest_of q ds ∙ ap (drop q) same ∙ drop-set-lt q (drop q cs) i e h ∙ sym (rest_of q cs)

pub rest_same : {M : Type 0} (q : ℕ) (cs ds : List M) → drop q ds ≡ drop q cs → drop (2 * q) ds ≡ drop (2 * q) cs
rest_same q cs ds same = rest_of q ds ∙ ap (drop q) same ∙ sym (rest_of q cs)

-- cells that are all empty agree, and stand for empty elements
pub all_none : {M L : Type 0} {none : M} {op : M → M → M} {fits : M → L → Bool} → Laws none op fits → (cs : List M) (q : ℕ)
    → 2 * q ≤ length cs → ((k : ℕ) → k < 2 * q → get_or cs k none ≡ none) → Agrees none op q cs
all_none {none = none} {op = op} laws cs q long empty = record {
  long = long;
  sums = λ k p h.
      empty k (omega arith)
      ∙ sym (laws.left_neutral none)
      ∙ sym (ap (λ y. op y (get_or cs (2 * k + 1) none)) (empty (2 * k) (omega arith)) ∙ ap (op none) (empty (2 * k + 1) (omega arith)));
}

pub leaves_none : {M : Type 0} (none : M) (q n : ℕ) (cs : List M) → 2 * q ≤ length cs → n ≤ q → ((k : ℕ) → k < 2 * q → get_or cs k none ≡ none) → leaves q n cs ≡ replicate n none
leaves_none none q n cs long few empty =
    let len = length_leaves q n cs long few in
    ext_get_or none (leaves q n cs) (replicate n none) (len ∙ sym (length-replicate n none))
    (λ i h.
    let lt : i < n = omega arith in
    get_or-take n (drop q cs) i none lt ∙ get_or-drop q cs i none ∙ empty (q + i) (omega arith) ∙ sym (get_or-replicate n i none none lt))
