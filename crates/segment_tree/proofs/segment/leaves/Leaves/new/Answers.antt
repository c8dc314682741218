-- Cells that are enough for two for each leaf are enough for the elements.
use Rattle.std.proofs.Common.{◌*◌, length, sym, arith, rules, leb-true}
use Rattle.segment_tree.specs.LeafCount.{leaf_count}
use Rattle.segment_tree.proofs.Doubling.{leaf_count_least}
use Rattle.segment_tree.proofs.segment.leaves.Leaves.new.Goals as goal

pub leaf_count-size-requires : goal.leaf_count-size-requires
leaf_count-size-requires g c =
    let above = (leaf_count_least c.args.count).above in
    let room = leb-true (2 * leaf_count c.args.count) (length c.args.cells.now) (sym c.if-not-enough.ensures) in
    search rules

pub invariant_of-result : goal.invariant_of-result
invariant_of-result g c =
    let is = c.leaf_count-size.ensures in
    let above = (leaf_count_least c.args.count).above in
    let room = leb-true (2 * leaf_count c.args.count) (length c.args.cells.now) (sym c.if-not-enough.ensures) in
    record { few = omega arith; long = omega arith }
