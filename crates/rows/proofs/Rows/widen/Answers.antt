-- The fold of one row is its reach.
use Rattle.std.proofs.Common.{◌+◌, ◌∙◌, ap, set, arith}
use Rattle.segment_tree.specs.Joins.{fold_of}
use Rattle.segment_tree.specs.Trees.{elements}
use Rattle.segment_tree.proofs.Spans.{fold_one}
use Rattle.reaches.specs.Reaches.{no_reach, farther}
use Rattle.reaches.specs.Laws.{reach_laws}
use Rattle.rows.proofs.Folds.{long_enough}
use Rattle.rows.proofs.Rows.widen.Goals as goal

pub returns-clause-after : goal.returns-clause-after
returns-clause-after c =
    let rows = c.args.self.now in
    let es = elements rows.tree in
    let old = c.fold-old.ensures ∙ ap (λ i. fold_of no_reach farther es i (i + 1)) c.index-at.ensures ∙ fold_one reach_laws es c.args.row no_reach (omega (arith, long_enough rows, c.requires.inside)) in
    c.set.ensures.after ∙ ap (λ i. set es i c.join.result) c.index-at.ensures ∙ ap (set es c.args.row) (c.join.ensures ∙ ap (farther c.args.reach) old)
