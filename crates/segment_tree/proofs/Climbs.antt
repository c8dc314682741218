-- The steps of a walk up and down, and where it ends. Assumes nothing.
use Rattle.std.proofs.Common.{◌≡◌, ℕ, zero, suc, ◌+◌, ◌*◌, ◌/◌, ◌%◌, ◌^◌, ◌<◌, ◌≤◌, Bool, true, false, List, length, get_or, sym, ap, ◌∙◌, ⊎_elim, mul_assoc, mul_comm, add-mul, eq-zero-or-pos, one-mul, pow-suc, zero-mul, mul-one, le-mul_of_pos_right, arith, pow_pos}
use native.Mathlib.Nat.{pow-zero}
use Rattle.segment_tree.specs.Joins.{Laws, total, fold_of}
use Rattle.segment_tree.specs.Cells.{Agrees, leaves}
use Rattle.segment_tree.specs.Walk.{Held, Stuck}
use Rattle.segment_tree.specs.LongestRun.{Longest}
use Rattle.segment_tree.proofs.Spans.{fold_cat, fold_one, double}
use Rattle.segment_tree.proofs.LeafLists.{part_leaves, length_leaves}

-- the half of an even number, times twice as much
half_times : (x w : ℕ) → x % 2 ≡ 0 → x / 2 * (w * 2) ≡ x * w
half_times x w e =
    let h : x / 2 * 2 ≡ x = omega arith in
    ap (λ y. x / 2 * y) (mul_comm w 2) ∙ sym (mul_assoc (x / 2) 2 w) ∙ ap (λ y. y * w) h

times_pos : (x w s : ℕ) → x * w ≡ s → 0 < s → 0 < x
times_pos x w s e p = ⊎_elim (λ z. let q : x * w ≡ 0 = ap (λ y. y * w) z ∙ zero-mul w in let r : 0 < x = omega arith in r) (λ r. r) (eq-zero-or-pos x)

-- a power of two above 1 is twice another
half_pow : (w k : ℕ) → w ≡ 2 ^ k → 1 < w → (w / 2 * 2 ≡ w) × ((j : ℕ) × (w / 2 ≡ 2 ^ j))
half_pow w zero e p = let q : w ≡ 1 = e ∙ pow-zero 2 in let no : ⊥ = omega arith in absurd no
half_pow w (suc k) e p = let s = pow-suc 2 k in (omega arith, (k, omega arith))

-- what a stand says of itself
module _ {M : Type 0} {none : M} {op : M → M → M} {ok : M → Bool} {size n a : ℕ} {cs : List M} {at node width : ℕ} {joined : M} (h : Held none op ok size n cs a at node width joined) where
  pub wide_pos : 0 < width
  wide_pos = let p = pow_pos h.pow.0 in let e = h.pow.1 in omega arith

  pub node_le : node ≤ size + at
  node_le = let p = le-mul_of_pos_right {m = width} node wide_pos in let e = h.place in omega arith

  pub node_pos : n ≤ size → at + width ≤ n → 0 < node
  node_pos order w = let p = wide_pos in times_pos node width (size + at) h.place (omega arith)

  pub node_lt : n ≤ size → at + width ≤ n → node < 2 * size
  node_lt order w = let p = wide_pos in let q = node_le in omega arith

  pub up : node % 2 ≡ 0 → Held none op ok size n cs a at (node / 2) (width * 2) joined
  up even = record {
    pow = (suc h.pow.0, ap (λ y. y * 2) h.pow.1 ∙ sym (pow-suc 2 h.pow.0));
    place = half_times node width even ∙ h.place;
    from = h.from;
    top = h.top;
    is = h.is;
    fine = h.fine;
  }

  pub down : 1 < width → Held none op ok size n cs a at (node * 2) (width / 2) joined
  down wide = let hp = half_pow width h.pow.0 h.pow.1 wide in record {
    pow = hp.1;
    place = mul_assoc node 2 (width / 2) ∙ ap (λ y. node * y) (mul_comm 2 (width / 2) ∙ hp.0) ∙ h.place;
    from = h.from;
    top = h.top;
    is = h.is;
    fine = h.fine;
  }

  pub half : 1 < width → width / 2 * 2 ≡ width
  half wide = (half_pow width h.pow.0 h.pow.1 wide).0

module _ {M L : Type 0} {none : M} {op : M → M → M} {fits : M → L → Bool} (laws : Laws none op fits) where
  -- a row of nodes stands for the row k levels below it
  pub wide : (cs : List M) (q : ℕ) → Agrees none op q cs → (k lo hi : ℕ) → lo ≤ hi → 0 < lo → hi * 2 ^ k ≤ 2 * q
      → fold_of none op cs lo hi ≡ fold_of none op cs (lo * 2 ^ k) (hi * 2 ^ k)
  wide cs q good zero lo hi o p h =
      let e1 = mul-one lo in
      let e2 = mul-one hi in
      sym (ap (λ x. fold_of none op cs x (hi * 1)) e1 ∙ ap (λ x. fold_of none op cs lo x) e2)
  wide cs q good (suc k) lo hi o p h =
      let e1 : 2 * lo * 2 ^ k ≡ lo * 2 ^ suc k = ap (λ x. x * 2 ^ k) (mul_comm 2 lo) ∙ mul_assoc lo 2 (2 ^ k) ∙ ap (λ x. lo * x) (mul_comm 2 (2 ^ k) ∙ sym (pow-suc 2 k)) in
      let e2 : 2 * hi * 2 ^ k ≡ hi * 2 ^ suc k = ap (λ x. x * 2 ^ k) (mul_comm 2 hi) ∙ mul_assoc hi 2 (2 ^ k) ∙ ap (λ x. hi * x) (mul_comm 2 (2 ^ k) ∙ sym (pow-suc 2 k)) in
      let grows = le-mul_of_pos_right {m = 2 ^ k} (2 * hi) (pow_pos k) in
      double laws cs q good lo hi o p (omega arith)
      ∙ wide cs q good k (2 * lo) (2 * hi) (omega arith) (omega arith) (omega arith)
      ∙ ap (λ x. fold_of none op cs x (2 * hi * 2 ^ k)) e1
      ∙ ap (λ x. fold_of none op cs (lo * 2 ^ suc k) x) e2

  module _ {ok : M → Bool} {size n a at node width : ℕ} {cs : List M} {joined : M}
      (good : Agrees none op size cs) (order : n ≤ size) (h : Held none op ok size n cs a at node width joined) (w : at + width ≤ n) (x : M) (read : x ≡ get_or cs node x) where
    -- the node after what was passed makes what is passed next
    pub passes : op joined x ≡ fold_of none op cs (size + a) (size + (at + width))
    passes =
        let long = good.long in
        let p = wide_pos h in
        let lt = node_lt h order w in
        let k = h.pow.0 in
        let e = h.pow.1 in
        let place : node * 2 ^ k ≡ size + at = ap (λ y. node * y) (sym e) ∙ h.place in
        let next : (node + 1) * 2 ^ k ≡ size + (at + width) = add-mul node 1 (2 ^ k) ∙ let o = one-mul (2 ^ k) in let r : node * 2 ^ k + 1 * 2 ^ k ≡ size + (at + width) = omega arith in r in
        let one = fold_one laws cs node x (omega arith) in
        let all = wide cs size good k node (node + 1) (omega arith) (node_pos h order w) (omega arith) in
        let moved = ap (λ y. fold_of none op cs y ((node + 1) * 2 ^ k)) place ∙ ap (λ y. fold_of none op cs (size + at) y) next in
        let f = h.from in
        let cat = fold_cat laws cs (size + a) (size + at) (size + (at + width)) (omega arith) (omega arith) in
        let x-is : x ≡ fold_of none op cs (size + at) (size + (at + width)) = read ∙ sym one ∙ all ∙ moved in
        ap (λ y. op y x) h.is ∙ ap (op (fold_of none op cs (size + a) (size + at))) x-is ∙ sym cat

    -- where that is too much, the walk is stuck
    pub blocked : (more : M) → more ≡ op joined x → ok more ≡ false → Stuck none op ok size n cs a at width
    blocked more e bad =
        λ le fine.
        let moved = ap ok (e ∙ passes) in
        let no : ◌≡◌ {A = ℕ} 0 1 = cc in
        let stop : ⊥ = omega arith in
        stop

    -- else it goes on to the next node
    pub along : (more : M) → more ≡ op joined x → ok more ≡ true → Held none op ok size n cs a (at + width) (node + 1) width more
    along more e fine = record {
      pow = h.pow;
      place = add-mul node 1 width ∙ let o = one-mul width in let p = h.place in let r : node * width + 1 * width ≡ size + (at + width) = omega arith in r;
      from = let f = h.from in omega arith;
      top = let p = wide_pos h in omega arith;
      is = e ∙ passes;
      fine = fine;
    }

  pub longest : {ok : M → Bool} {size n a at : ℕ} (cs : List M) → 2 * size ≤ length cs → a ≤ at → at ≤ n → n ≤ size
      → ((x y : M) → ok (op x y) ≡ true → ok x ≡ true)
      → ok (fold_of none op cs (size + a) (size + at)) ≡ true → Stuck none op ok size n cs a at 1 → Longest none op ok (leaves size n cs) a at
  longest {ok} {size} {n} {a} {at} cs long from top order begins fine stuck =
      let len = length_leaves size n cs long order in
      record {
        from = from;
        fine = λ lt. (omega arith, ap (λ xs. ok (total none op xs)) (part_leaves size n cs a at top) ∙ fine);
        most = λ k lt le is.
            let within : k ≤ n = omega arith in
            let fine-k : ok (fold_of none op cs (size + a) (size + k)) ≡ true = sym (ap (λ xs. ok (total none op xs)) (part_leaves size n cs a k within)) ∙ is in
            let cat = fold_cat laws cs (size + a) (size + (at + 1)) (size + k) (omega arith) (omega arith) in
            stuck (omega arith) (begins (fold_of none op cs (size + a) (size + (at + 1))) (fold_of none op cs (size + (at + 1)) (size + k)) (sym (ap ok cat) ∙ fine-k));
      }

  -- where not even the empty element is within the limit, no run is
  pub none_fits : {ok : M → Bool} (xs : List M) (a : ℕ) → ((x y : M) → ok (op x y) ≡ true → ok x ≡ true) → ok none ≡ false → Longest none op ok xs a a
  none_fits {ok} xs a begins bad = record {
    from = omega arith;
    fine = λ lt. let no : ⊥ = omega arith in absurd no;
    most = λ k lt le is.
        let rest = fold_of none op xs a k in
        let good = begins none rest (ap ok (laws.left_neutral rest) ∙ is) in
        let no : ◌≡◌ {A = ℕ} 0 1 = cc in
        let stop : ⊥ = omega arith in
        stop;
  }

-- no run starts past the end
pub none_past : {M : Type 0} (none : M) (op : M → M → M) (ok : M → Bool) (xs : List M) (a : ℕ) → length xs < a → Longest none op ok xs a a
none_past none op ok xs a h = record {
  from = omega arith;
  fine = λ lt. let no : ⊥ = omega arith in absurd no;
  most = λ k lt le is. let no : ⊥ = omega arith in no;
}
