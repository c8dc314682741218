use Rattle.segment_tree.specs.Trees.{elements}
use Rattle.rows.specs.Fit.{Stays}
use Rattle.rows.specs.Asked.{panel_at}
use Rattle.rows.proofs.Grown.{Grown}
use Rattle.rows.proofs.Rows.take_in.Given as goal

abbrev pub invariant-loop-k : goal.invariant-loop-k
invariant-loop-k g l =
    Stays l.initial.self l.self
    × Grown l.initial.self.width (panel_at l.side l.place.x l.place.y (g.S.Shape.model l.shape)) l.k (elements l.initial.self.tree) (elements l.self.tree)
