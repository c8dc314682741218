-- What the code reads items against, in the words of the plan. Assumes nothing.
--     setting d records cells    the setting that the desk d stands for, with so many records and cells for a text
use Rattle.std.specs.Prelude.{ℕ}
use Rattle.items.specs.Shelves.{kept}
use Rattle.scales.specs.Scales.{scale_advances}
use Rattle.sheet_file.specs.declared.desks.Desk.{Desk}
use Rattle.sheet_file.specs.Plans.{Setting}

abbrev pub setting : Desk → ℕ → ℕ → Setting
setting d records cells = record { width = d.width; advances = scale_advances d.scale; shapes = kept d.shelf; records = records; cells = cells }
