-- A leaf set is an element set.
use Rattle.std.proofs.Common.{◌+◌, set}
use lib.Seq.{drop-set-add}
use Rattle.segment_tree.proofs.LeafLists.{leaves_set}
use Rattle.segment_tree.proofs.segment.leaves.Leaves.lay.Goals as goal

pub returns-clause-after : goal.returns-clause-after
returns-clause-after g c =
    let t = c.args.self.now in
    let cs = t.cells.now in
    leaves_set t.size t.count c.args.i cs (set cs (t.size + c.args.i) c.args.e) c.args.e c.if-self-i.false (drop-set-add t.size cs c.args.i c.args.e)
