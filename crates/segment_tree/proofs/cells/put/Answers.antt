-- Leaf i set is a cell set, past the inner cells.
use Rattle.std.proofs.Common.{◌∙◌}
use lib.Seq.{drop-set-add}
use Rattle.segment_tree.proofs.cells.put.Goals as goal

pub returns-then-eq-clause-after : goal.returns-then-eq-clause-after
returns-then-eq-clause-after g c = c.loop-node.invariant.4 ∙ drop-set-add c.args.size c.args.cells.now c.args.i c.args.e

pub returns-clause-after : goal.returns-clause-after
returns-clause-after g c = c.loop-node.invariant.4 ∙ drop-set-add c.args.size c.args.cells.now c.args.i c.args.e
