-- What each metrics is made of, and when its making is refused. Assumes nothing.
--     FitCell c           c may be a cell's advance
--     MakesCell c r       r answers who asks for a cell of advance c
--     FitTable ws q       ws and q may be the widths and the size of a table
--     MakesTable ws q r   r answers who asks for a table of these
--     MakesHouse q r      r answers who asks for the house table at size q
use Rattle.std.specs.Prelude.{◌≡◌, ℕ, ◌≤◌, List, length, Ok, Err, Result}
use Rattle.metrics.specs.House.{house_widths}
use Rattle.metrics.specs.Width.{FitWidths, FitSize}
use Rattle.metrics.specs.declared.Unfit.{Unfit}
use Rattle.metrics.specs.declared.cells.Cell.{Cell}
use Rattle.metrics.specs.declared.tables.Table.{Table}

abbrev pub FitCell : ℕ → Type 0
FitCell c = (1 ≤ c) × (c ≤ 255)

abbrev pub MakesCell : ℕ → Result Cell Unfit → Type 0
MakesCell c (Ok m) = FitCell c × (m.advance ≡ c)
MakesCell c (Err _) = FitCell c → ⊥

pub record FitTable (ws : List ℕ) (q : ℕ) : Type 0 where
  pub count : length ws ≡ 95
  pub wide : FitWidths ws
  pub large : FitSize q

abbrev pub MakesTable : List ℕ → ℕ → Result Table Unfit → Type 0
MakesTable ws q (Ok t) = FitTable ws q × (t.widths ≡ ws) × (t.size ≡ q)
MakesTable ws q (Err _) = FitTable ws q → ⊥

abbrev pub MakesHouse : ℕ → Result Table Unfit → Type 0
MakesHouse q (Ok t) = FitSize q × (t.widths ≡ house_widths) × (t.size ≡ q)
MakesHouse q (Err _) = FitSize q → ⊥
