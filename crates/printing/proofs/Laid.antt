-- Laws of laying. Assumes nothing.
use Rattle.std.proofs.Common.{◌≡◌, ℕ, ◌+◌, ◌<◌, ◌≤◌, min, List, [], ◌∷◌, ◌++◌, length, get_or, drop, set, sym, refl, ap, ◌∙◌, arith}
use Rattle.std.specs.List.{flat_map}
use Rattle.std.proofs.lemmas.List.{at_drop_more, at_drop_all, length_push, set_at, append_assoc}
use Rattle.printing.specs.Laying.{Memory, memory, laid, counted, greatest}

pub laid_append : (xs ys : List ℕ) (w : Memory) → laid w (xs ++ ys) ≡ laid (laid w xs) ys
laid_append [] ys w = refl
laid_append (x ∷ xs) ys w = laid_append xs ys (memory (min greatest (w.count + 1)) (set w.bytes w.count x))

-- one part after another
pub joins : (xs ys : List ℕ) (u v w : Memory) → v ≡ laid u xs → w ≡ laid v ys → w ≡ laid u (xs ++ ys)
joins xs ys u v w e f = f ∙ ap (λ x. laid x ys) e ∙ sym (laid_append xs ys u)

-- a part for each element of a list: one more, and all of them
module _ {X : Type 0} (f : X → List ℕ) (xs : List X) (i : ℕ) where
  pub part_more : (d : X) (u v : Memory) → i < length xs → v ≡ laid u (f (get_or xs i d)) → laid v (flat_map f (drop (i + 1) xs)) ≡ laid u (flat_map f (drop i xs))
  part_more d u v h e =
      let step : laid u (flat_map f (drop i xs)) ≡ laid u (f (get_or xs i d) ++ flat_map f (drop (i + 1) xs)) = at_drop_more (λ l. laid u (flat_map f l)) xs i d h in
      sym (step ∙ sym (joins (f (get_or xs i d)) (flat_map f (drop (i + 1) xs)) u v (laid v (flat_map f (drop (i + 1) xs))) e refl))

  pub part_all : (u : Memory) → length xs ≤ i → laid u (flat_map f (drop i xs)) ≡ u
  part_all u h = at_drop_all (λ l. laid u (flat_map f l)) xs i h

-- all that is laid is counted
pub counts : (bs : List ℕ) (w : Memory) → w.count ≤ greatest → (laid w bs).count ≡ min greatest (w.count + length bs)
counts [] w h = omega arith
counts (b ∷ bs) w h = let e = counts bs (memory (min greatest (w.count + 1)) (set w.bytes w.count b)) (omega arith) in omega arith

-- and stands behind what was there, where the memory goes on long enough
pub lands : (bs front rest : List ℕ) → length bs ≤ length rest → length front + length bs ≤ greatest → (laid (memory (length front) (front ++ rest)) bs).bytes ≡ front ++ (bs ++ drop (length bs) rest)
lands [] front rest h k = refl
lands (b ∷ bs) front [] h k = absurd (omega arith)
lands (b ∷ bs) front (r ∷ rest) h k =
    let at : min greatest (length front + 1) ≡ length (front ++ (b ∷ [])) = omega (arith, length_push front b) in
    let s : set (front ++ (r ∷ rest)) (length front) b ≡ (front ++ (b ∷ [])) ++ rest = set_at front r rest b (length front) refl ∙ sym (append_assoc front (b ∷ []) rest) in
    let e = lands bs (front ++ (b ∷ [])) rest (omega arith) (omega (arith, length_push front b)) in
    let go : (laid (memory (min greatest (length front + 1)) (set (front ++ (r ∷ rest)) (length front) b)) bs).bytes ≡ (laid (memory (length (front ++ (b ∷ []))) ((front ++ (b ∷ [])) ++ rest)) bs).bytes = ap (λ (x : Memory). (laid x bs).bytes) (λ i. memory (at i) (s i)) in
    go ∙ e ∙ append_assoc front (b ∷ []) (bs ++ drop (length bs) rest)

-- from the front on
module _ (bs out : List ℕ) (n : ℕ) (last : List ℕ) (all : memory n last ≡ laid (memory 0 out) bs) where
  pub counted_all : n ≡ counted bs
  counted_all =
      let e = counts bs (memory 0 out) (omega arith) in
      let f : n ≡ (laid (memory 0 out) bs).count = ap (λ (w : Memory). w.count) all in
      omega arith

  pub landed_all : length bs ≤ length out → length out ≤ greatest → last ≡ bs ++ drop (length bs) out
  landed_all h k = ap (λ (w : Memory). w.bytes) all ∙ lands bs [] out h (omega arith)
