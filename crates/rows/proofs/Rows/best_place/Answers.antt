-- The rows in question are halved until none is left.
use Rattle.std.proofs.Common.{◌+◌, ◌-◌, ◌/◌, arith}
use Rattle.rows.proofs.Halving.{none_up, halved}
use Rattle.rows.proofs.Rows.best_place.Goals as goal

pub loop-low-preserved : goal.loop-low-preserved
loop-low-preserved g c =
    let f = g.S.Shape.model c.args.shape.now in
    let y = c.loop-low.low + (c.loop-low.high - c.loop-low.low) / 2 in (
      omega arith,
      c.loop-low.invariant.1,
      none_up c.args.self.now c.args.ground.margins c.args.ground.line c.args.ground.current c.args.start c.args.side f y (omega arith) (omega arith) c.in-None.ensures.told,
      c.loop-low.invariant.3,
      c.loop-low.invariant.4,
    )

pub returns-clause-told : goal.returns-clause-told
returns-clause-told g c =
    halved c.args.self.now c.args.ground.margins c.args.ground.line c.args.ground.current c.args.start c.args.side (g.S.Shape.model c.args.shape.now)
    (g.met.S.Shape.real c.args.shape.now) c.loop-low.low c.loop-low.high c.loop-low.found (omega arith) c.loop-low.invariant.2 c.loop-low.invariant.3
