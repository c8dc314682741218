use Rattle.shapes.specs.Steps.{steps_in}
use Rattle.lines.proofs.Climbing.{step_good}
use Rattle.lines.proofs.flights.take_steps.Goals as goal

pub loop-preserved : goal.loop-preserved
loop-preserved c =
    let l = c.loop in
    step_good c.args.count l.counter c.args.fields.now l.fields (steps_in l.steps) l.invariant c.loop-test.true
    c.take.new.self c.take.ensures.stepped c.in_ok-rows.rows c.in_ok-rows.ensures.value
    c.take-in-loop.new.self c.take-in-loop.ensures.stepped c.in_ok-extent.extent c.in_ok-extent.ensures.value
    (steps_in c.push.new.self) c.push.ensures
