-- Reaches keep the laws of a kind of element. Assumes nothing.
--     reach_laws     joining them has its laws, and what is within a need stays within it when less is joined
--     reach_equals   two reaches are one exactly where their four numbers are equal
use Rattle.std.specs.Prelude.{◌≡◌, ℕ, ◌≤◌, true, ◌&&◌, ◌↔◌, nat_eq}
use Rattle.std.proofs.Common.{ap, arith}
use Rattle.std.proofs.lemmas.Bool.{leb-true, le-leb, eqb-true, eq-eqb, and_parts, and_from}
use Rattle.segment_tree.specs.Joins.{Laws}
use Rattle.places.specs.declared.parts.Span.{Span}
use Rattle.places.specs.Bands.{room}
use Rattle.reaches.specs.declared.reach.Reach.{Reach}
use Rattle.reaches.specs.declared.reach.Taken.{Taken}
use Rattle.reaches.specs.declared.reach.Taken.TheVariants.{Boxes, Areas}
use Rattle.reaches.specs.Reaches.{reach, no_reach, farther, left_over, leaves_need}

same : (a b c d e f g h : ℕ) → a ≡ e → b ≡ f → c ≡ g → d ≡ h → reach a b c d ≡ reach e f g h
same a b c d e f g h p q r s = cc

-- one that reaches farther leaves no more
less_left : (of : Taken) (W : ℕ) (m : Span) (x y : Reach) → room (left_over of W m (farther x y)) ≤ room (left_over of W m x)
less_left Boxes W m x y = omega arith
less_left Areas W m x y = omega arith

pub reach_laws : Laws no_reach farther leaves_need
reach_laws = record {
  associative = λ x y z. same _ _ _ _ _ _ _ _ (omega arith) (omega arith) (omega arith) (omega arith);
  left_neutral = λ x. same _ _ _ _ _ _ _ _ (omega arith) (omega arith) (omega arith) (omega arith);
  right_neutral = λ x. same _ _ _ _ _ _ _ _ (omega arith) (omega arith) (omega arith) (omega arith);
  begins_within = λ x y l h.
      let all = leb-true l.need (room (left_over l.gap.of l.gap.width l.gap.margins (farther x y))) h in
      let less = less_left l.gap.of l.gap.width l.gap.margins x y in
      le-leb l.need (room (left_over l.gap.of l.gap.width l.gap.margins x)) (omega arith);
}

-- whether two reaches are the same, number by number
pub reach_equals : (x y : Reach) → (nat_eq x.box_left y.box_left && (nat_eq x.box_right y.box_right && (nat_eq x.area_left y.area_left && nat_eq x.area_right y.area_right)) ≡ true) ↔ (x ≡ y)
reach_equals x y =
    let a = nat_eq x.box_left y.box_left in
    let b = nat_eq x.box_right y.box_right in
    let c = nat_eq x.area_left y.area_left in
    let d = nat_eq x.area_right y.area_right in (
      λ e. let p = and_parts a (b && (c && d)) e in
          let q = and_parts b (c && d) p.1 in
          let r = and_parts c d q.1 in
          same _ _ _ _ _ _ _ _ (eqb-true x.box_left y.box_left p.0) (eqb-true x.box_right y.box_right q.0) (eqb-true x.area_left y.area_left r.0) (eqb-true x.area_right y.area_right r.1),
      λ e. and_from a (b && (c && d)) (eq-eqb x.box_left y.box_left (ap (λ (r : Reach). r.box_left) e))
          (and_from b (c && d) (eq-eqb x.box_right y.box_right (ap (λ (r : Reach). r.box_right) e))
          (and_from c d (eq-eqb x.area_left y.area_left (ap (λ (r : Reach). r.area_left) e)) (eq-eqb x.area_right y.area_right (ap (λ (r : Reach). r.area_right) e)))),
    )
