use Rattle.shapes.specs.Steps.{steps_in}
use Rattle.lines.proofs.Climbing.{Sofar}
use Rattle.lines.proofs.flights.take_steps.Given as goal

abbrev pub invariant-loop : goal.invariant-loop
invariant-loop l = Sofar l.count l.counter l.initial.fields l.fields (steps_in l.steps)
