-- On the way down: what was passed is held, and the whole width is too much.
use Rattle.segment_tree.specs.Walk.{Held, Stuck}
use Rattle.segment_tree.proofs.segment.Tree.descend.Given as goal

abbrev pub invariant-loop-width : goal.invariant-loop-width
invariant-loop-width g l =
    let m = g.E.Element in
    Held m.none m.op (λ x. m.fits x l.limit) l.self.size l.self.count l.self.cells.now l.a l.at l.node l.width l.joined
    × Stuck m.none m.op (λ x. m.fits x l.limit) l.self.size l.self.count l.self.cells.now l.a l.at l.width

abbrev pub decreases-loop-width : goal.decreases-loop-width
decreases-loop-width g l = l.width
