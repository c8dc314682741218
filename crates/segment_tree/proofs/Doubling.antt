-- Powers of two: the least one that is enough, by doubling and by leading zeros. Assumes nothing.
use Rattle.std.proofs.Common.{◌≡◌, ℕ, zero, suc, ◌-◌, ◌*◌, ◌%◌, ◌^◌, ◌<◌, ◌≤◌, true, false, cond, leb, sym, ap, ◌∙◌, subst, ⊎_elim, zero-le, mod-eq_of_lt, mul_assoc, mul_comm, one-mul, pow-suc, lt_of_not-le, mul-one, arith, pow_pos, pow_mono, rules}
use native.Mathlib.Nat.{pow-zero}
use Rattle.std.proofs.lemmas.Bool.{cases_lt}
use lib.Count.{count_leading_zeros, leading_length}
use Rattle.segment_tree.specs.LeafCount.{LeastPower, doubled, leaf_count}

-- a power below twice another is no higher
pub pow_back : (m j : ℕ) → 2 ^ m < 2 * 2 ^ j → m ≤ j
pow_back m j h =
    let up : suc m ≤ suc j = lt_of_not-le (λ g. let more = pow_mono {i = suc j} {j = m} g in let step = pow-suc 2 j in let no : ⊥ = omega arith in no) in
    omega arith

pub one_least : {n p q : ℕ} → LeastPower n p → LeastPower n q → p ≡ q
one_least {n} {p} {q} s t =
    let e = s.power.1 in
    let f = t.power.1 in
    let a = s.above in
    let b = t.above in
    let low = s.least t.power.0 (omega arith) in
    let high = t.least s.power.0 (omega arith) in
    omega arith

-- doubling stops at the first power that is enough
doubled_least : (times n p j : ℕ) → p ≡ 2 ^ j → n ≤ p * 2 ^ times → ((k : ℕ) → n ≤ 2 ^ k → p ≤ 2 ^ k) → LeastPower n (doubled times n p)
doubled_least zero n p j e h l = record { power = (j, e); above = let o = mul-one p in omega arith; least = l }
doubled_least (suc times) n p j e h l =
    ⊎_elim
    (λ more.
    let stop : leb n p ≡ false = search rules in
    let s = pow-suc 2 j in
    let twice : p * 2 ^ suc times ≡ 2 * p * 2 ^ times =
    ap (λ x. p * x) (pow-suc 2 times ∙ mul_comm (2 ^ times) 2) ∙ sym (mul_assoc p 2 (2 ^ times)) ∙ ap (λ x. x * 2 ^ times) (mul_comm p 2) in
    let rest = doubled_least times n (2 * p) (suc j) (omega arith) (omega arith)
    (λ k g. let up : suc j ≤ k = lt_of_not-le (λ d. let m = pow_mono {i = k} {j = j} d in let no : ⊥ = omega arith in no) in let r = pow_mono up in omega arith) in
    subst (λ b. LeastPower n (cond b p (doubled times n (2 * p)))) (sym stop) rest)
    (λ done.
    let stop : leb n p ≡ true = search rules in
    subst (λ b. LeastPower n (cond b p (doubled times n (2 * p)))) (sym stop) (record { power = (j, e); above = done; least = l }))
    (cases_lt p n)

-- n doublings of 1 pass n
enough_doublings : (n : ℕ) → n ≤ 1 * 2 ^ n
enough_doublings zero = zero-le
enough_doublings (suc n) = let h = enough_doublings n in let s = pow-suc 2 n in let o = pow_pos n in let a = one-mul (2 ^ n) in let b = one-mul (2 ^ suc n) in omega arith

pub leaf_count_least : (n : ℕ) → LeastPower n (leaf_count n)
leaf_count_least n = doubled_least n n 1 0 (sym (pow-zero 2)) (enough_doublings n) (λ k g. pow_pos k)

pub by_zeros : (n a : ℕ) → a ≡ n - 1 → n ≤ 2 ^ 63 → (64 - count_leading_zeros 64 a < 64) × LeastPower n ((1 * 2 ^ (64 - count_leading_zeros 64 a)) % 2 ^ 64)
by_zeros n a e h =
    let l = leading_length 64 a (omega arith) in
    let m = l.0 in
    let is : 64 - count_leading_zeros 64 a ≡ m = omega (arith, l.1) in
    let low : m ≤ 63 = pow_back m 63 (omega (arith, l.3)) in
    let fit : 2 ^ m ≤ 2 ^ 63 = pow_mono low in
    let value : (1 * 2 ^ (64 - count_leading_zeros 64 a)) % 2 ^ 64 ≡ 2 ^ m =
    ap (λ x. (1 * 2 ^ x) % 2 ^ 64) is ∙ ap (λ x. x % 2 ^ 64) (one-mul (2 ^ m)) ∙ mod-eq_of_lt (omega arith) in (
      omega arith,
      record {
        power = (m, value);
        above = omega (arith, l.2);
        least = λ k g. let q : m ≤ k = pow_back m k (omega (arith, l.3, pow_pos k)) in let r : 2 ^ m ≤ 2 ^ k = pow_mono q in omega arith;
      },
    )
