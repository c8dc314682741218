-- A part of the elements is a part of the cells, and an end past the last element is the last.
use Rattle.std.proofs.Common.{◌+◌, min, sym, ap, ◌∙◌, arith}
use Rattle.segment_tree.specs.Joins.{total, fold_of}
use Rattle.segment_tree.specs.Trees.{elements}
use Rattle.segment_tree.proofs.LeafLists.{part_min, part_leaves, length_leaves}
use Rattle.segment_tree.proofs.segment.Tree.fold.Goals as goal

pub returns : goal.returns
returns g c =
    let m = g.E.Element in
    let t = c.args.self.now in
    let len = length_leaves t.size t.count t.cells.now t.long t.few in
    let e = c.min-end.ensures in
    let cut = part_min (elements t) c.args.a c.args.b t.count len in
    let down = part_leaves t.size t.count t.cells.now c.args.a (min c.args.b t.count) (omega arith) in
    c.join_between.ensures ∙ ap (λ x. fold_of m.none m.op t.cells.now (t.size + c.args.a) (t.size + x)) e ∙ sym (ap (total m.none m.op) (cut ∙ down))
