-- Which panels the rows tell, by the reach of each row. Assumes nothing.
--     index_of row        where the reach of a row stands in the tree
--     gap_of W m of       beside the boxes or beside the areas between the margins m, on a sheet W wide
--     Told W H cells qs   the boxes of qs end within the width W, and each of the H rows has the reach of qs
--     Tells rows qs       the rows tell the panels qs
use Rattle.std.specs.Prelude.{◌≡◌, ℕ, ◌<◌, List, slice_index_or}
use Rattle.segment_tree.specs.Trees.{elements}
use Rattle.places.specs.Panels.{Placed}
use Rattle.reaches.specs.declared.reach.Reach.{Reach}
use Rattle.reaches.specs.Reaches.{no_reach}
use Rattle.reaches.specs.Panels.{row_reach, Inside}
use Rattle.reaches.specs.declared.reach.Taken.{Taken}
use Rattle.reaches.specs.declared.reach.Gap.{Gap}
use Rattle.places.specs.declared.parts.Span.{Span}
use Rattle.rows.specs.declared.Rows.{Rows}

abbrev pub index_of : ℕ → ℕ
index_of row = row

abbrev pub gap_of : ℕ → Span → Taken → Gap
gap_of W m of = record { margins = m; width = W; of = of }

pub record Told (W H : ℕ) (cells : List Reach) (qs : List Placed) : Type 0 where
  pub inside : Inside W qs
  pub each : (row : ℕ) → row < H → slice_index_or cells (index_of row) no_reach ≡ row_reach W qs row

abbrev pub Tells : Rows → List Placed → Type 0
Tells rows qs = Told rows.width rows.height (elements rows.tree) qs
