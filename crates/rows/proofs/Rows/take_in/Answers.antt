-- Each turn widens one row by the panel's reach there.
use Rattle.std.proofs.Common.{◌≡◌, ◌+◌, ◌<◌, ◌∷◌, length, sym, subst, subst₂, arith}
use Rattle.segment_tree.specs.Trees.{elements}
use Rattle.rows.specs.Told.{Told}
use Rattle.rows.specs.Asked.{panel_at}
use Rattle.rows.proofs.Folds.{long_enough}
use Rattle.rows.proofs.Grown.{Grown, row_taken, grown_more, grown_all, stays_on}
use Rattle.rows.proofs.Rows.take_in.Goals as goal

pub loop-k-preserved : goal.loop-k-preserved
loop-k-preserved g c =
    let f = g.S.Shape.model c.args.shape.now in
    let q = panel_at c.args.side c.args.place.x c.args.place.y f in
    let before = c.args.self.now in
    let now = c.loop-k.self in
    let next = c.widen.new.self in
    let k = c.loop-k.k in
    let stays = c.loop-k.invariant.0 in
    let small : k < f.tall = omega (arith, c.height-k-end.ensures) in
    let inside : c.args.place.y + k < length (elements now.tree) = omega (arith, long_enough now, stays.height, c.requires.high) in
    let reach =
    row_taken before.width now.width c.width-w.result c.extent-e.result q k c.reach-taken.result
    small stays.width c.width-w.ensures c.extent-e.ensures c.reach-taken.ensures in (
      stays_on before now next stays c.widen.ensures.stays,
      grown_more before.width q k (elements before.tree) (elements now.tree) (elements next.tree) c.reach-taken.result inside c.loop-k.invariant.1 reach c.widen.ensures.after,
    )

pub returns-clause-told : goal.returns-clause-told
returns-clause-told g c = λ qs told.
    let f = g.S.Shape.model c.args.shape.now in
    let q = panel_at c.args.side c.args.place.x c.args.place.y f in
    let before = c.args.self.now in
    let now = c.loop-k.self in
    let stays = c.loop-k.invariant.0 in
    let all : c.loop-k.k ≡ f.tall = omega (arith, c.height-k-end.ensures, c.loop-k.auto.k-end) in
    let grown = subst (λ n. Grown before.width q n (elements before.tree) (elements now.tree)) all c.loop-k.invariant.1 in
    subst₂ (λ W H. Told W H (elements now.tree) (q ∷ qs)) (sym stays.width) (sym stays.height)
    (grown_all before.width before.height q (elements before.tree) (elements now.tree) (g.met.S.Shape.real c.args.shape.now) c.requires.wide grown qs told)
