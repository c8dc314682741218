-- Joining leaves the cells past the leaves as they are.
use Rattle.std.proofs.Common.{refl}
use Rattle.segment_tree.proofs.LeafLists.{rest_same}
use Rattle.segment_tree.proofs.segment.leaves.Leaves.join_all.Goals as goal

pub returns-clause-kept : goal.returns-clause-kept
returns-clause-kept g c =
    let l = c.args.self in
    record { count = refl; size = refl; rest = rest_same l.size l.cells.now c.join_all.new.cells c.join_all.ensures.after }
