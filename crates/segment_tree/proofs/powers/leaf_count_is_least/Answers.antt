-- Doubling finds a least power of two, and there is only one.
use Rattle.segment_tree.proofs.Doubling.{one_least, leaf_count_least}
use Rattle.segment_tree.proofs.powers.leaf_count_is_least.Goals as goal

pub returns : goal.returns
returns c = λ n. (leaf_count_least n, λ p h. one_least h (leaf_count_least n))
