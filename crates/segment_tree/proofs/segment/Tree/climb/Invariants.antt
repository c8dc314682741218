-- On the way up: what was passed is held. Each turn passes leaves or halves the node.
use Rattle.std.proofs.Common.{◌+◌, ◌-◌, ◌*◌}
use Rattle.segment_tree.specs.Walk.{Held}
use Rattle.segment_tree.proofs.segment.Tree.climb.Given as goal

abbrev pub invariant-loop-width : goal.invariant-loop-width
invariant-loop-width g l =
    let m = g.E.Element in
    Held m.none m.op (λ x. m.fits x l.limit) l.self.size l.self.count l.self.cells.now l.a l.at l.node l.width l.joined

abbrev pub decreases-loop-width : goal.decreases-loop-width
decreases-loop-width g l = 2 * (l.self.count - l.at) + l.node
