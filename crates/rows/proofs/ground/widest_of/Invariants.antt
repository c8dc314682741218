use Rattle.std.proofs.Common.{◌≡◌}
use Rattle.places.specs.Bands.{widest}
use Rattle.rows.proofs.ground.widest_of.Given as goal

abbrev pub invariant-loop-k : goal.invariant-loop-k
invariant-loop-k g l = l.most ≡ widest (g.S.Shape.model l.shape).extent l.k
