-- Each turn is a step of the walk.
use Rattle.std.proofs.Common.{◌<◌, length, sym, ap, ◌∙◌, arith, rules}
use Rattle.segment_tree.proofs.Sound.{agrees}
use Rattle.segment_tree.proofs.Climbs.{node_lt, up, blocked, along}
use Rattle.segment_tree.proofs.segment.Tree.climb.Goals as goal

pub loop-width-preserved-then-node-eq0 : goal.loop-width-preserved-then-node-eq0
loop-width-preserved-then-node-eq0 g c = up c.loop-width.invariant c.if-node-eq0.true

pub loop-width-preserved : goal.loop-width-preserved
loop-width-preserved g c =
    along g.met.E.Element.lawful (agrees c.args.self.now) c.args.self.now.few c.loop-width.invariant (omega arith)
    c.index-self-node.result c.index-self-node.is c.join-more.result (c.join-more.ensures ∙ ap (g.E.Element.op c.loop-width.joined) (sym c.index-self-node.is))
    (sym c.within.ensures ∙ c.if-not-within.false)

pub returns-then-not-within-clause-stuck : goal.returns-then-not-within-clause-stuck
returns-then-not-within-clause-stuck g c =
    blocked g.met.E.Element.lawful (agrees c.args.self.now) c.args.self.now.few c.loop-width.invariant (omega arith)
    c.index-self-node.result c.index-self-node.is c.join-more.result (c.join-more.ensures ∙ ap (g.E.Element.op c.loop-width.joined) (sym c.index-self-node.is))
    (sym c.within.ensures ∙ c.if-not-within.true)

pub offset_bounds-self-node : goal.offset_bounds-self-node
offset_bounds-self-node g c =
    let t = c.args.self.now in
    let long = t.long in
    let lt = node_lt c.loop-width.invariant t.few (omega arith) in
    let inside : c.loop-width.node < length t.cells.now = omega arith in
    search rules
