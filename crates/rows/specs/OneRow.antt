-- What is found out of a panel on one row. Assumes nothing.
--     line_band m qs L current   the open line's band, or the margins m where no line is open
--     Leaves L around p current  the open line, whose band is `around`, keeps its room beside the panel p
--     OnRow z S o y r            r is the nearest place of row y, which is good, or none, and the row is not
use Rattle.std.specs.Prelude.{◌≡◌, ℕ, ◌+◌, ◌-◌, ◌<◌, ◌≤◌, List, Some, None, Option}
use Rattle.places.specs.declared.parts.Span.{Span}
use Rattle.places.specs.declared.parts.Line.{Line}
use Rattle.places.specs.Panels.{Placed}
use Rattle.places.specs.Bands.{room, beside, band, widest}
use Rattle.places.specs.Permitted.{Rows, Scene, Wanted}
use Rattle.places.specs.Tried.{near, Good}

abbrev pub line_band : Span → List Placed → ℕ → Option Line → Span
line_band m qs L None = m
line_band m qs L (Some n) = band m qs n.top L

-- only the panel's widest row among those of the line counts
abbrev pub Leaves : ℕ → Span → Placed → Option Line → Type 0
Leaves L around p None = Unit {0}
Leaves L around p (Some n) = p.y < n.top + L → n.used ≤ room (beside p (widest p.form.extent (n.top + L - p.y)) around)

abbrev pub OnRow : Rows → Scene → Wanted → ℕ → Option ℕ → Type 0
OnRow z S o y (Some x) = (x ≡ near S o y) × Good z S o y
OnRow z S o y None = Good z S o y → ⊥
