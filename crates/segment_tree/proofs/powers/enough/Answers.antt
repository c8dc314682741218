-- A count above half the cells needs more than them all.
use Rattle.std.proofs.Common.{rules}
use Rattle.segment_tree.proofs.Doubling.{leaf_count_least}
use Rattle.segment_tree.proofs.powers.enough.Goals as goal

pub returns-else-count-cells : goal.returns-else-count-cells
returns-else-count-cells c = let above = (leaf_count_least c.args.count).above in search rules
