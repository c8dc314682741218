-- All inner cells are sums but the one above the node, and the leaves are as they were when the loop began.
use Rattle.std.proofs.Common.{◌≡◌, ℕ, ◌*◌, ◌/◌, ◌<◌, ◌≤◌, length, drop}
use Rattle.segment_tree.proofs.Sums.{SumAt}
use Rattle.segment_tree.proofs.cells.put.Given as goal

abbrev pub invariant-loop-node : goal.invariant-loop-node
invariant-loop-node g l =
    (0 < l.node)
    × (l.node < 2 * l.size)
    × (2 * l.size ≤ length l.cells)
    × ((k : ℕ) → 0 < k → k < l.size → (k ≡ l.node / 2 → ⊥) → SumAt g.E.Element.none g.E.Element.op l.cells k)
    × (drop l.size l.cells ≡ drop l.size l.initial.cells)

abbrev pub decreases-loop-node : goal.decreases-loop-node
decreases-loop-node g l = l.node
