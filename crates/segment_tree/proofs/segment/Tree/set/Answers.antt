-- A leaf set is an element set, and leaves the cells past the leaves as they were.
use Rattle.std.proofs.Common.{refl, arith}
use Rattle.segment_tree.proofs.LeafLists.{leaves_set, rest_set}
use Rattle.segment_tree.proofs.segment.Tree.set.Goals as goal

pub returns-clause-kept : goal.returns-clause-kept
returns-clause-kept g c =
    let t = c.args.self.now in
    let few = t.few in
    let lt = c.if-i-self.false in
    record { count = refl; size = refl; rest = rest_set t.size c.args.i t.cells.now c.put.new.cells c.args.e (omega arith) c.put.ensures.after }

pub returns-clause-after : goal.returns-clause-after
returns-clause-after g c =
    let t = c.args.self.now in
    leaves_set t.size t.count c.args.i t.cells.now c.put.new.cells c.args.e c.if-i-self.false c.put.ensures.after
