-- What a tree's type says of its cells. Assumes nothing.
use Rattle.segment_tree.specs.Cells.{Agrees}
use Rattle.segment_tree.specs.declared.segment.Tree.{Tree}

pub agrees : {E L : Type 0} {e : _} {p : _} → (t : Tree E L e p) → Agrees e.none e.op t.size t.cells.now
agrees t = record { long = t.long; sums = t.sums }
