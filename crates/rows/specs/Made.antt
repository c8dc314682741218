-- What new rows are. Assumes nothing.
--     Laid cells W H rows   the rows of an empty sheet W by H in these cells, which are enough
--     Bare cells rows       no rows, and these cells are as they were
use Rattle.std.specs.Prelude.{◌≡◌, ℕ, ◌*◌, ◌≤◌, List, [], length, drop}
use Rattle.segment_tree.specs.LeafCount.{leaf_count}
use Rattle.shapes.specs.Form.{most_units}
use Rattle.reaches.specs.declared.reach.Reach.{Reach}
use Rattle.rows.specs.declared.Rows.{Rows}
use Rattle.rows.specs.Told.{Tells}
use Rattle.rows.specs.Fit.{Fit}

pub record Laid (cells : List Reach) (W H : ℕ) (rows : Rows) : Type 0 where
  pub width : rows.width ≡ W
  pub height : rows.height ≡ H
  pub room : 2 * leaf_count H ≤ length cells
  pub size : rows.tree.size ≡ leaf_count H
  pub fit : W ≤ most_units → H ≤ most_units → Fit rows
  pub told : Tells rows []
  pub rest : drop (2 * leaf_count H) rows.tree.cells.now ≡ drop (2 * leaf_count H) cells

pub record Bare (cells : List Reach) (rows : Rows) : Type 0 where
  pub width : rows.width ≡ 0
  pub height : rows.height ≡ 0
  pub size : rows.tree.size ≡ 0
  pub fit : Fit rows
  pub told : Tells rows []
  pub same : rows.tree.cells.now ≡ cells
