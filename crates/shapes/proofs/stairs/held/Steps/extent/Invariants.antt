use Rattle.std.proofs.Common.{◌≡◌, drop}
use Rattle.shapes.specs.Staircase.{extent_at}
use Rattle.shapes.proofs.stairs.held.Steps.extent.Given as goal

abbrev pub invariant-loop-step : goal.invariant-loop-step
invariant-loop-step l = extent_at (drop l.step-index l.step-items) l.rest ≡ extent_at l.step-items l.k
