-- Walking down the rows for a line. Assumes nothing.
use Rattle.std.proofs.Common.{◌≡◌, ℕ, ◌<◌}
use Rattle.places.specs.declared.parts.Span.{Span}
use Rattle.places.specs.Permitted.{Scene}
use Rattle.places.specs.Lines.{Lies}
use Rattle.rows.specs.declared.Rows.{Rows}
use Rattle.rows.specs.Told.{Tells}
use Rattle.rows.specs.Asked.{sizes_of}

module _ (rows : Rows) (m : Span) (L start need : ℕ) where
  -- the line may not lie on any row above t
  abbrev pub NoHigher : ℕ → Type 0
  NoHigher t = (scene : Scene) → Tells rows scene.placed → scene.margins ≡ m → (t' : ℕ) → t' < t → Lies (sizes_of rows L) scene start need t' → ⊥
