-- What a call on a sheet leaves as it is. Assumes nothing.
--     Spares s t    between s and t, the records of the list past those in use and the cells past those of the rows kept their content
--     Keeps s t     so they did, and the same paragraph is open in t as in s, or none in either
use Rattle.std.specs.Prelude.{◌≡◌}
use Rattle.rows.specs.Fit.{Stays}
use Rattle.sheet.specs.declared.sheet.Sheet.{Sheet}
use Rattle.sheet.specs.View.{Rest}
use Rattle.sheet.specs.Sheets.{fields, open_number}

pub record Spares (s t : Sheet) : Type 0 where
  pub list : Rest (fields s) (fields t)
  pub rows : Stays s.store.rows t.store.rows

pub record Keeps (s t : Sheet) : Type 0 where
  pub number : open_number t ≡ open_number s
  pub spares : Spares s t
