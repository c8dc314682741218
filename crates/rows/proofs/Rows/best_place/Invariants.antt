use Rattle.std.proofs.Common.{◌+◌, ◌-◌, ◌≤◌, IfSome}
use Rattle.rows.specs.Asked.{BoxInside}
use Rattle.rows.proofs.Halving.{NoneAbove, KeptLow}
use Rattle.rows.proofs.Rows.best_place.Given as goal

abbrev pub invariant-loop-low : goal.invariant-loop-low
invariant-loop-low g l =
    (l.start ≤ l.low)
    × (l.high ≤ l.self.height + 1 - (g.S.Shape.model l.shape).tall)
    × NoneAbove l.self l.ground.margins l.ground.line l.ground.current l.start l.side (g.S.Shape.model l.shape) l.low
    × KeptLow l.self l.ground.margins l.ground.line l.ground.current l.start l.side (g.S.Shape.model l.shape) l.high l.found
    × IfSome l.found (BoxInside l.self (g.S.Shape.model l.shape))

abbrev pub decreases-loop-low : goal.decreases-loop-low
decreases-loop-low g l = l.high - l.low
