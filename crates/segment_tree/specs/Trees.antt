-- What a tree stands for, and its leaves while the joins wait; what the methods of both make and keep. Assumes nothing.
--     elements t            the elements of a tree, in order
--     laid l                the elements that leaves hold, in order
--     Unmoved n q cs ..     n elements and q leaves as before, and the cells past those that q leaves use are as they were
--     Kept s t              so it is from the tree s to the tree t
--     KeptLeaves s t        from the leaves s to the leaves t
--     KeptJoined l t        from the leaves l to the tree t
--     Fresh none cells n t  t is a tree of n empty elements in these cells, which are enough
--     Lent cells n l        l are the leaves for n elements in these cells, which are enough, and are as they were
--     Vacant cells t        t is a tree of no elements, and these cells are as they were
--     Parted t l            l are the leaves of the tree t
use Rattle.std.specs.Prelude.{◌≡◌, ℕ, ◌*◌, ◌≤◌, List, length, drop, replicate}
use Rattle.segment_tree.specs.Cells.{leaves}
use Rattle.segment_tree.specs.LeafCount.{leaf_count}
use Rattle.segment_tree.specs.declared.segment.Tree.{Tree}
use Rattle.segment_tree.specs.declared.segment.leaves.Leaves.{Leaves}

abbrev pub elements : {E L : Type 0} {e : _} {p : _} → Tree E L e p → List E
elements t = leaves t.size t.count t.cells.now

abbrev pub laid : {E : Type 0} → Leaves E → List E
laid l = leaves l.size l.count l.cells.now

pub record Unmoved {M : Type 0} (n q : ℕ) (cs : List M) (n' q' : ℕ) (cs' : List M) : Type 0 where
  pub count : n' ≡ n
  pub size : q' ≡ q
  pub rest : drop (2 * q) cs' ≡ drop (2 * q) cs

abbrev pub Kept : {E L : Type 0} {e : _} {p : _} → Tree E L e p → Tree E L e p → Type 0
Kept s t = Unmoved s.count s.size s.cells.now t.count t.size t.cells.now

abbrev pub KeptLeaves : {E : Type 0} → Leaves E → Leaves E → Type 0
KeptLeaves s t = Unmoved s.count s.size s.cells.now t.count t.size t.cells.now

abbrev pub KeptJoined : {E L : Type 0} {e : _} {p : _} → Leaves E → Tree E L e p → Type 0
KeptJoined l t = Unmoved l.count l.size l.cells.now t.count t.size t.cells.now

pub record Fresh {E L : Type 0} {e : _} {p : _} (none : E) (cells : List E) (n : ℕ) (t : Tree E L e p) : Type 0 where
  pub room : 2 * leaf_count n ≤ length cells
  pub count : t.count ≡ n
  pub size : t.size ≡ leaf_count n
  pub empty : elements t ≡ replicate n none
  pub rest : drop (2 * leaf_count n) t.cells.now ≡ drop (2 * leaf_count n) cells

pub record Lent {E : Type 0} (cells : List E) (n : ℕ) (l : Leaves E) : Type 0 where
  pub room : 2 * leaf_count n ≤ length cells
  pub count : l.count ≡ n
  pub size : l.size ≡ leaf_count n
  pub same : l.cells.now ≡ cells

pub record Vacant {E L : Type 0} {e : _} {p : _} (cells : List E) (t : Tree E L e p) : Type 0 where
  pub count : t.count ≡ 0
  pub size : t.size ≡ 0
  pub same : t.cells.now ≡ cells

pub record Parted {E L : Type 0} {e : _} {p : _} (t : Tree E L e p) (l : Leaves E) : Type 0 where
  pub count : l.count ≡ t.count
  pub size : l.size ≡ t.size
  pub same : l.cells.now ≡ t.cells.now
