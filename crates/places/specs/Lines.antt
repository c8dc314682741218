-- Which rows a line may stand on (CSS 2.1, 9.4.2 and 9.5). Assumes nothing.
--     Wide z S t n          the band of a line at t is at least n units wide
--     Lies z S start a t    a word of advance a fits a new line at t, a row open to it: from start on, with the line's end on the sheet
--     Least z S start a t   t is the highest such row
use Rattle.std.specs.Prelude.{ℕ, ◌+◌, ◌<◌, ◌≤◌}
use Rattle.places.specs.Bands.{room, band}
use Rattle.places.specs.Permitted.{Rows, Scene}

abbrev pub Wide : Rows → Scene → ℕ → ℕ → Type 0
Wide z S t n = n ≤ room (band S.margins S.placed t z.line)

pub record Lies (z : Rows) (S : Scene) (start a t : ℕ) : Type 0 where
  pub low : start ≤ t
  pub high : t + z.line ≤ z.height
  pub wide : Wide z S t a

pub record Least (z : Rows) (S : Scene) (start a t : ℕ) : Type 0 where
  pub lies : Lies z S start a t
  pub highest : (t' : ℕ) → t' < t → Lies z S start a t' → ⊥
