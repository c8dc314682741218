-- The sum that is held at a number is a lawful join, and so are runs. Assumes nothing.
--     run_laws     joining runs has its laws, and what has room keeps it when fewer words are joined
--     run_equals   two runs are one exactly where their two numbers are equal
use Rattle.std.proofs.Common.{⊎_elim, sym, ap, ◌∙◌, mul-le-mul_left, arith}
use Rattle.std.specs.Prelude.{◌≡◌, ℕ, ◌+◌, ◌-◌, ◌<◌, ◌≤◌, true, ◌&&◌, ◌↔◌, min, max, nat_eq}
use Rattle.segment_tree.specs.Joins.{Laws}
use Rattle.std.proofs.lemmas.Bool.{cases_lt, leb-true, le-leb, and_parts, and_from, eqb-true, eq-eqb}
use Rattle.text.specs.Run.{largest, held_sum, no_run, longer, width_of, has_room}
use Rattle.text.specs.declared.runs.Run.{Run}

-- the sum held at `cap`; it is shut, so that each step below sees one of its laws and not its text
held : ℕ → ℕ → ℕ → ℕ
held cap a b = max (max a b) (min cap (a + b))

module _ (cap : ℕ) where
  least : (a b : ℕ) → max a b ≤ held cap a b
  unfolding held
  least a b = omega arith

  most : (a b : ℕ) → held cap a b ≤ max (max a b) cap
  unfolding held
  most a b = omega arith

  past : (a b : ℕ) → cap < max a b → held cap a b ≡ max a b
  unfolding held
  past a b h = omega arith

  within : (a b : ℕ) → a ≤ cap → b ≤ cap → held cap a b ≡ min cap (a + b)
  unfolding held
  within a b h k = omega arith

  min_assoc : (a b c : ℕ) → min cap (min cap (a + b) + c) ≡ min cap (a + min cap (b + c))
  min_assoc a b c = omega arith

  -- where one of the three is past the cap, both sides are the greatest of them
  past_left : (a b c : ℕ) → cap < max (max a b) c → held cap (held cap a b) c ≡ max (max a b) c
  past_left a b c h =
      let low = least a b in
      let high = most a b in
      past (held cap a b) c (omega arith)
      ∙ ⊎_elim (λ k. ap (λ x. max x c) (past a b k)) (λ k. omega arith) (cases_lt cap (max a b))

  past_right : (a b c : ℕ) → cap < max (max a b) c → held cap a (held cap b c) ≡ max (max a b) c
  past_right a b c h =
      let low = least b c in
      let high = most b c in
      past a (held cap b c) (omega arith)
      ∙ ⊎_elim (λ k. ap (max a) (past b c k) ∙ omega arith) (λ k. omega arith) (cases_lt cap (max b c))

  held_assoc : (a b c : ℕ) → held cap (held cap a b) c ≡ held cap a (held cap b c)
  held_assoc a b c =
      ⊎_elim (λ h. past_left a b c h ∙ sym (past_right a b c h))
      (λ h.
      ap (λ x. held cap x c) (within a b (omega arith) (omega arith))
      ∙ within (min cap (a + b)) c (omega arith) (omega arith)
      ∙ min_assoc a b c
      ∙ sym (ap (held cap a) (within b c (omega arith) (omega arith)) ∙ within a (min cap (b + c)) (omega arith) (omega arith)))
      (cases_lt cap (max (max a b) c))

sum_assoc : (a b c : ℕ) → held_sum (held_sum a b) c ≡ held_sum a (held_sum b c)
unfolding held
sum_assoc a b c = held_assoc largest a b c

alike : (x y : Run) → x.advance ≡ y.advance → x.count ≡ y.count → x ≡ y
alike x y p q = λ j. record { advance = p j; count = q j }

pub run_laws : Laws no_run longer has_room
run_laws = record {
  associative = λ x y z. alike _ _ (sum_assoc x.advance y.advance z.advance) (sum_assoc x.count y.count z.count);
  left_neutral = λ x. alike _ _ (omega arith) (omega arith);
  right_neutral = λ x. alike _ _ (omega arith) (omega arith);
  begins_within = λ x y room h.
      let fewer : x.count - 1 ≤ (longer x y).count - 1 = omega arith in
      let gaps = mul-le-mul_left room.space fewer in
      le-leb (width_of x room.space) room.width (omega (arith, leb-true (width_of (longer x y) room.space) room.width h));
}

-- two runs whose parts are equal numbers are one run
pub run_equals : (x y : Run) → (nat_eq x.advance y.advance && nat_eq x.count y.count ≡ true) ↔ (x ≡ y)
run_equals x y = (
  λ e. let parts = and_parts (nat_eq x.advance y.advance) (nat_eq x.count y.count) e in
      alike x y (eqb-true x.advance y.advance parts.0) (eqb-true x.count y.count parts.1),
  λ e. and_from (nat_eq x.advance y.advance) (nat_eq x.count y.count) (eq-eqb x.advance y.advance (ap (λ (r : Run). r.advance) e)) (eq-eqb x.count y.count (ap (λ (r : Run). r.count) e)),
)
