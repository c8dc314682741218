-- What the laws give of the join of a part of a list, and of the cells of a tree. Assumes nothing.
use Rattle.std.proofs.Common.{◌≡◌, ℕ, zero, suc, ◌+◌, ◌-◌, ◌*◌, ◌<◌, ◌≤◌, Bool, List, [], ◌∷◌, ◌++◌, length, get_or, take, drop, sym, ap, ◌∙◌, arith, drop-cons, drop-drop, take-add}
use Rattle.segment_tree.specs.Joins.{Laws, total, fold_of}
use Rattle.segment_tree.specs.Cells.{Agrees}

module _ {M L : Type 0} {none : M} {op : M → M → M} {fits : M → L → Bool} (laws : Laws none op fits) where
  pub total_append : (xs ys : List M) → total none op (xs ++ ys) ≡ op (total none op xs) (total none op ys)
  total_append [] ys = sym (laws.left_neutral (total none op ys))
  total_append (x ∷ xs) ys = ap (op x) (total_append xs ys) ∙ sym (laws.associative x (total none op xs) (total none op ys))

  pub fold_none : (cs : List M) (lo hi : ℕ) → hi ≤ lo → fold_of none op cs lo hi ≡ none
  fold_none cs lo hi h = ap (λ n. total none op (take n (drop lo cs))) (let e : hi - lo ≡ 0 = omega arith in e)

  pub fold_cat : (cs : List M) (lo mid hi : ℕ) → lo ≤ mid → mid ≤ hi
      → fold_of none op cs lo hi ≡ op (fold_of none op cs lo mid) (fold_of none op cs mid hi)
  fold_cat cs lo mid hi h k =
      let n : hi - lo ≡ (mid - lo) + (hi - mid) = omega arith in
      let m : lo + (mid - lo) ≡ mid = omega arith in
      ap (λ x. total none op (take x (drop lo cs))) n
      ∙ ap (total none op) (take-add (mid - lo) (hi - mid) (drop lo cs))
      ∙ total_append (take (mid - lo) (drop lo cs)) (take (hi - mid) (drop (mid - lo) (drop lo cs)))
      ∙ ap (λ x. op (fold_of none op cs lo mid) (total none op (take (hi - mid) x))) (drop-drop (mid - lo) lo cs ∙ ap (λ x. drop x cs) m)

  pub fold_one : (cs : List M) (lo : ℕ) (d : M) → lo < length cs → fold_of none op cs lo (lo + 1) ≡ get_or cs lo d
  fold_one cs lo d h =
      let n : (lo + 1) - lo ≡ 1 = omega arith in
      ap (λ x. total none op (take x (drop lo cs))) n
      ∙ ap (λ x. total none op (take 1 x)) (drop-cons cs lo d h)
      ∙ laws.right_neutral (get_or cs lo d)

  -- the nodes lo to hi - 1 stand for the nodes below them
  double_by : (cs : List M) (q : ℕ) → Agrees none op q cs → (d lo hi : ℕ) → hi ≡ lo + d → 0 < lo → hi ≤ q
      → fold_of none op cs lo hi ≡ fold_of none op cs (2 * lo) (2 * hi)
  double_by cs q good zero lo hi e p h =
      fold_none cs lo hi (omega arith) ∙ sym (fold_none cs (2 * lo) (2 * hi) (omega arith))
  double_by cs q good (suc d) lo hi e p h =
      let long = good.long in
      let next : hi ≡ (lo + 1) + d = omega arith in
      let rest = double_by cs q good d (lo + 1) hi next (omega arith) h in
      let one = fold_one cs lo none (omega arith) in
      let two = fold_one cs (2 * lo) none (omega arith) in
      let three = fold_one cs (2 * lo + 1) none (omega arith) in
      let cat = fold_cat cs lo (lo + 1) hi (omega arith) (omega arith) in
      let low = fold_cat cs (2 * lo) (2 * lo + 1) (2 * lo + 1 + 1) (omega arith) (omega arith) in
      let all = fold_cat cs (2 * lo) (2 * lo + 1 + 1) (2 * hi) (omega arith) (omega arith) in
      let sums = good.sums lo p (omega arith) in
      let at : 2 * (lo + 1) ≡ 2 * lo + 1 + 1 = omega arith in
      let moved = ap (λ x. fold_of none op cs x (2 * hi)) at in
      cc

  pub double : (cs : List M) (q : ℕ) → Agrees none op q cs → (lo hi : ℕ) → lo ≤ hi → 0 < lo → hi ≤ q
      → fold_of none op cs lo hi ≡ fold_of none op cs (2 * lo) (2 * hi)
  double cs q good lo hi o p h = double_by cs q good (hi - lo) lo hi (omega arith) p h

  pub from_front : (cs : List M) (lo hi : ℕ) (f b d : M) → lo < hi → lo < length cs
      → op f (op (fold_of none op cs lo hi) b) ≡ op (op f (get_or cs lo d)) (op (fold_of none op cs (lo + 1) hi) b)
  from_front cs lo hi f b d h k =
      let x = get_or cs lo d in
      let rest = fold_of none op cs (lo + 1) hi in
      let cat : fold_of none op cs lo hi ≡ op x rest =
      fold_cat cs lo (lo + 1) hi (omega arith) (omega arith) ∙ ap (λ y. op y rest) (fold_one cs lo d k) in
      ap (λ y. op f (op y b)) cat ∙ ap (op f) (laws.associative x rest b) ∙ sym (laws.associative f x (op rest b))

  pub from_back : (cs : List M) (lo hi : ℕ) (f b d : M) → lo ≤ hi → hi < length cs
      → op f (op (fold_of none op cs lo (hi + 1)) b) ≡ op f (op (fold_of none op cs lo hi) (op (get_or cs hi d) b))
  from_back cs lo hi f b d h k =
      let x = get_or cs hi d in
      let rest = fold_of none op cs lo hi in
      let cat : fold_of none op cs lo (hi + 1) ≡ op rest x =
      fold_cat cs lo hi (hi + 1) h (omega arith) ∙ ap (op rest) (fold_one cs hi d k) in
      ap (λ y. op f (op y b)) cat ∙ ap (op f) (laws.associative rest x b)
