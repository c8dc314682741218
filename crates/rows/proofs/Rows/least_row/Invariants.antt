-- The line may not lie on any row above this one.
use Rattle.rows.proofs.Walk.{NoHigher}
use Rattle.rows.proofs.Rows.least_row.Given as goal

abbrev pub invariant-loop-top : goal.invariant-loop-top
invariant-loop-top l = NoHigher l.self l.margins l.line l.start l.need l.top
