-- The inner cells from the node on are sums, and the leaves are as they were.
use Rattle.std.proofs.Common.{◌≡◌, ℕ, ◌<◌, ◌≤◌, drop}
use Rattle.segment_tree.proofs.Sums.{SumAt}
use Rattle.segment_tree.proofs.cells.join_all.Given as goal

abbrev pub invariant-loop-node : goal.invariant-loop-node
invariant-loop-node g l =
    ((k : ℕ) → 0 < k → l.node ≤ k → k < l.size → SumAt g.E.Element.none g.E.Element.op l.cells k)
    × (drop l.size l.cells ≡ drop l.size l.initial.cells)
