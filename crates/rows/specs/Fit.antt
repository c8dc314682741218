-- How large the rows may be, and what the calls on them keep. Assumes nothing.
--     Fit rows    the sheet's sizes are in their ranges
--     Stays s t   t is as wide and as high as s, and the cells that s does not use are as they were
use Rattle.std.specs.Prelude.{◌≡◌, ◌≤◌}
use Rattle.segment_tree.specs.Trees.{Kept}
use Rattle.shapes.specs.Form.{most_units}
use Rattle.rows.specs.declared.Rows.{Rows}

pub record Fit (rows : Rows) : Type 0 where
  pub wide : rows.width ≤ most_units
  pub high : rows.height ≤ most_units

pub record Stays (s t : Rows) : Type 0 where
  pub width : t.width ≡ s.width
  pub height : t.height ≡ s.height
  pub tree : Kept s.tree t.tree
