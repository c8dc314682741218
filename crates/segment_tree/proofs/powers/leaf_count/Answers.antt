-- The bits that n - 1 takes are the exponent of the least power of two not below n.
use Rattle.segment_tree.proofs.Doubling.{by_zeros, one_least, leaf_count_least}
use Rattle.segment_tree.proofs.powers.leaf_count.Goals as goal

pub overflow_shl-result : goal.overflow_shl-result
overflow_shl-result c = (by_zeros c.args.n c.saturating_sub.result c.saturating_sub.ensures c.requires).0

pub returns : goal.returns
returns c =
    let p = (by_zeros c.args.n c.saturating_sub.result c.saturating_sub.ensures c.requires).1 in
    one_least p (leaf_count_least c.args.n)
