-- The metrics that a script's words are measured by. Assumes nothing.
--     cell_of_one s       s has one unit for every byte
--     advances_of adv t   the advances of the words of the text t, where adv gives the advance of each byte
use Rattle.std.specs.Prelude.{◌≡◌, ℕ, List, map}
use Rattle.text.specs.Measure.{measured}
use Rattle.scales.specs.declared.Scale.{Scale}
use Rattle.scales.specs.declared.Scale.TheVariants as S

abbrev pub cell_of_one : Scale → Type 0
cell_of_one (S.Cell m) = m.advance ≡ 1
cell_of_one (S.Table t) = ⊥

abbrev pub advances_of : (ℕ → ℕ) → List ℕ → List ℕ
advances_of adv text = map (λ w. w.advance) (measured adv text)
