-- Each turn moves the odd nodes at the ends to what is joined, and goes up a level.
use Rattle.std.proofs.Common.{◌≡◌, ◌+◌, ◌*◌, ◌/◌, ◌%◌, ◌≤◌, arith, rules}
use Rattle.segment_tree.specs.Joins.{fold_of}
use Rattle.segment_tree.proofs.Sound.{agrees}
use Rattle.segment_tree.proofs.Spans.{double, from_front, from_back}
use Rattle.segment_tree.proofs.segment.Tree.join_between.Goals as goal
use Rattle.segment_tree.proofs.segment.Tree.join_between.Goals.{then-low-eq1, else-low-eq1, then-high-eq1, else-high-eq1}

pub loop-low-preserved : goal.loop-low-preserved
loop-low-preserved g c =
    let m = g.E.Element in
    let laws = g.met.E.Element.lawful in
    let cs = c.args.self.now.cells.now in
    let inv = c.loop-low.invariant in
    let long = c.args.self.now.long in
    let lo = c.loop-low.low in
    let hi = c.loop-low.high in
    let lo2 = c.if-low-eq1.low in
    let hi2 = c.if-high-eq1.high in
    let f2 = c.if-low-eq1.front in
    let b2 = c.if-high-eq1.back in
    let taken = c.loop-low-test.true in
    let even-low : (lo2 % 2 ≡ 0) × (lo ≤ lo2) × (lo2 ≤ hi) × (lo2 ≤ lo + 1) = elim c.if-low-eq1.branch [ then-low-eq1 w ↦ search rules | else-low-eq1 w ↦ search rules ] in
    let even-high : (hi2 % 2 ≡ 0) × (hi2 ≤ hi) × (lo2 ≤ hi2) = elim c.if-high-eq1.branch [ then-high-eq1 w ↦ search rules | else-high-eq1 w ↦ search rules ] in
    let front : m.op c.loop-low.front (m.op (fold_of m.none m.op cs lo hi) c.loop-low.back) ≡ m.op f2 (m.op (fold_of m.none m.op cs lo2 hi) c.loop-low.back) =
    elim c.if-low-eq1.branch [
      | then-low-eq1 w ↦
          let e = from_front laws cs lo hi c.loop-low.front c.loop-low.back w.index-self-low.result taken (omega arith) in
          let e1 = w.low-is in
          let e2 = w.front-is in
          let e3 = w.join-front.ensures in
          let e4 = w.index-self-low.is in
          cc
      | else-low-eq1 w ↦
          let e1 = w.low-is in
          let e2 = w.front-is in
          cc
    ] in
    let back : m.op f2 (m.op (fold_of m.none m.op cs lo2 hi) c.loop-low.back) ≡ m.op f2 (m.op (fold_of m.none m.op cs lo2 hi2) b2) =
    elim c.if-high-eq1.branch [
      | then-high-eq1 w ↦
          let e1 = w.high-is in
          let s : hi2 + 1 ≡ hi = omega arith in
          let e = from_back laws cs lo2 hi2 f2 c.loop-low.back w.index-self-high.result (omega arith) (omega arith) in
          let e2 = w.back-is in
          let e3 = w.join-back.ensures in
          let e4 = w.index-self-high.is in
          cc
      | else-high-eq1 w ↦
          let e1 = w.high-is in
          let e2 = w.back-is in
          cc
    ] in
    let low : 2 * (lo2 / 2) ≡ lo2 = omega arith in
    let high : 2 * (hi2 / 2) ≡ hi2 = omega arith in
    let up = double laws cs c.args.self.now.size (agrees c.args.self.now) (lo2 / 2) (hi2 / 2) (omega arith) (omega arith) (omega arith) in
    let start = inv.3 in
    (omega arith, omega arith, omega arith, cc)
