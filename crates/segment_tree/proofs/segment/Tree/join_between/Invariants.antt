-- What is joined already, with the nodes in between, is the whole.
use Rattle.std.proofs.Common.{◌≡◌, ◌+◌, ◌*◌, ◌<◌, ◌≤◌}
use Rattle.segment_tree.specs.Joins.{fold_of}
use Rattle.segment_tree.proofs.segment.Tree.join_between.Given as goal

abbrev pub invariant-loop-low : goal.invariant-loop-low
invariant-loop-low g l =
    let m = g.E.Element in
    (0 < l.low)
    × (l.low ≤ l.high)
    × (l.high ≤ 2 * l.self.size)
    × (m.op l.front (m.op (fold_of m.none m.op l.self.cells.now l.low l.high) l.back) ≡ fold_of m.none m.op l.self.cells.now (l.self.size + l.a) (l.self.size + l.b))

abbrev pub decreases-loop-low : goal.decreases-loop-low
decreases-loop-low g l = l.high
