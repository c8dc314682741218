-- Rows that tell panels fold to the panels' reaches. Assumes nothing.
use Rattle.std.proofs.Common.{◌≡◌, ℕ, zero, suc, ◌+◌, ◌≤◌, List, length, ap, ◌∙◌, ap₂, arith}
use Rattle.segment_tree.specs.Joins.{fold_of}
use Rattle.segment_tree.specs.Trees.{elements}
use Rattle.segment_tree.proofs.Spans.{fold_none, fold_cat, fold_one}
use Rattle.segment_tree.proofs.LeafLists.{length_leaves}
use Rattle.places.specs.Panels.{Placed}
use Rattle.reaches.specs.declared.reach.Reach.{Reach}
use Rattle.reaches.specs.Reaches.{no_reach, farther}
use Rattle.reaches.specs.Panels.{rows_reach}
use Rattle.reaches.specs.Laws.{reach_laws}
use Rattle.rows.specs.declared.Rows.{Rows}
use Rattle.rows.specs.Told.{Told}

-- there is an element for each row
pub long_enough : (rows : Rows) → length (elements rows.tree) ≡ rows.height
long_enough rows =
    let t = rows.tree in
    length_leaves t.size t.count t.cells.now t.long t.few ∙ rows.count

pub rows_fold : (W H : ℕ) (cells : List Reach) (qs : List Placed) → length cells ≡ H → Told W H cells qs
    → (n t : ℕ) → t + n ≤ H → fold_of no_reach farther cells t (t + n) ≡ rows_reach W qs t n
rows_fold W H cells qs long told zero t le = fold_none reach_laws cells t (t + 0) (omega arith)
rows_fold W H cells qs long told (suc n) t le =
    let next : t + suc n ≡ t + 1 + n = omega arith in
    ap (λ b. fold_of no_reach farther cells t b) next
    ∙ fold_cat reach_laws cells t (t + 1) (t + 1 + n) (omega arith) (omega arith)
    ∙ ap₂ farther (fold_one reach_laws cells t no_reach (omega arith) ∙ told.each t (omega arith)) (rows_fold W H cells qs long told n (t + 1) (omega arith))
