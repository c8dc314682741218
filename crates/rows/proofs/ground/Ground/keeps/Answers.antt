-- The widest row is no wider than the box.
use Rattle.std.proofs.Common.{◌+◌, ◌-◌, arith}
use Rattle.places.proofs.Panels.{widest_within}
use Rattle.rows.proofs.ground.Ground.keeps.Goals as goal

pub invariant_of-beside-clause-inside : goal.invariant_of-beside-clause-inside
invariant_of-beside-clause-inside g c =
    let f = g.S.Shape.model c.args.shape.now in
    let wide = c.width-w.ensures in
    let most = c.widest_of-e.ensures in
    let less = widest_within f.extent f.wide (c.in-Some.words.top + c.args.self.line - c.args.y) (g.met.S.Shape.real c.args.shape.now).within in
    omega arith
