-- The fold of the tree is the reach of the panels told.
use Rattle.segment_tree.specs.Trees.{elements}
use Rattle.rows.proofs.Folds.{long_enough, rows_fold}
use Rattle.rows.proofs.Rows.reach_of.Goals as goal

pub returns : goal.returns
returns c = λ qs told.
    let rows = c.args.self.now in
    let told_by = rows_fold rows.width rows.height (elements rows.tree) qs (long_enough rows) told c.args.n c.args.top c.requires.inside in
    cc
