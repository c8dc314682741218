-- What reaches say of the rules: they leave what the panels leave. Assumes nothing.
--     AreasLeaveTheBand   of the areas' reaches on some rows, the band of those rows
--     BoxesLeaveTheFree   of the boxes' reaches on a row, what is free there
use Rattle.std.specs.Prelude.{◌≡◌, ℕ, ◌≤◌, List}
use Rattle.places.specs.declared.parts.Span.{Span}
use Rattle.places.specs.Panels.{Placed}
use Rattle.places.specs.Bands.{band, free}
use Rattle.reaches.specs.declared.reach.Taken.TheVariants.{Boxes, Areas}
use Rattle.reaches.specs.Reaches.{left_over}
use Rattle.reaches.specs.Panels.{row_reach, rows_reach, Inside}

abbrev pub AreasLeaveTheBand : Type 0
AreasLeaveTheBand = (W : ℕ) (m : Span) (qs : List Placed) (t n : ℕ) → m.to ≤ W → Inside W qs → band m qs t n ≡ left_over Areas W m (rows_reach W qs t n)

abbrev pub BoxesLeaveTheFree : Type 0
BoxesLeaveTheFree = (W : ℕ) (m : Span) (qs : List Placed) (y : ℕ) → m.to ≤ W → Inside W qs → free m qs y ≡ left_over Boxes W m (row_reach W qs y)
