-- Each turn halves the width, and passes the left half where it fits.
use Rattle.std.proofs.Common.{◌≡◌, ◌+◌, ◌/◌, sym, ap, ◌∙◌, subst, arith}
use Rattle.segment_tree.specs.Joins.{fold_of}
use Rattle.segment_tree.specs.Walk.{Stuck}
use Rattle.segment_tree.proofs.Sound.{agrees}
use Rattle.segment_tree.proofs.Climbs.{wide_pos, down, half, blocked, along, longest}
use Rattle.segment_tree.proofs.segment.Tree.descend.Goals as goal

pub loop-width-preserved-then-within : goal.loop-width-preserved-then-within
loop-width-preserved-then-within g c =
    let m = g.E.Element in
    let h = down c.loop-width.invariant.0 c.loop-width-test.true in
    let twice = half c.loop-width.invariant.0 c.loop-width-test.true in
    let w = c.loop-width.width / 2 in
    let at = c.loop-width.at in
    let same : at + c.loop-width.width ≡ at + w + w = omega arith in (
      along g.met.E.Element.lawful (agrees c.args.self.now) c.args.self.now.few h (omega arith)
          c.index-self-node.result c.index-self-node.is c.join-more.result (c.join-more.ensures ∙ ap (g.E.Element.op c.loop-width.joined) (sym c.index-self-node.is))
          (sym c.within.ensures ∙ c.if-within.true),
      λ le fine.
          c.loop-width.invariant.1 (omega arith)
          (ap (λ x. m.fits (fold_of m.none m.op c.args.self.now.cells.now (c.args.self.now.size + c.args.a) (c.args.self.now.size + x)) c.args.limit.now) same ∙ fine),
    )

pub loop-width-preserved-else-within : goal.loop-width-preserved-else-within
loop-width-preserved-else-within g c =
    let h = down c.loop-width.invariant.0 c.loop-width-test.true in (
      h,
      blocked g.met.E.Element.lawful (agrees c.args.self.now) c.args.self.now.few h (omega arith)
          c.index-self-node.result c.index-self-node.is c.join-more.result (c.join-more.ensures ∙ ap (g.E.Element.op c.loop-width.joined) (sym c.index-self-node.is))
          (sym c.within.ensures ∙ c.if-within.false),
    )

pub loop-width-preserved : goal.loop-width-preserved
loop-width-preserved g c = (
  down c.loop-width.invariant.0 c.loop-width-test.true,
  λ le fine. let left = c.if-width-self.false in let stop : ⊥ = omega arith in stop,
)

pub returns : goal.returns
returns g c =
    let m = g.E.Element in
    let h = c.loop-width.invariant.0 in
    let one : c.loop-width.width ≡ 1 = let p = wide_pos h in let l = c.loop-width-test.false in let r : c.loop-width.width ≡ 1 = omega arith in r in
    let stuck : Stuck m.none m.op (λ x. m.fits x c.args.limit.now) c.args.self.now.size c.args.self.now.count c.args.self.now.cells.now c.args.a c.loop-width.at 1 =
    subst (λ w. Stuck m.none m.op (λ x. m.fits x c.args.limit.now) c.args.self.now.size c.args.self.now.count c.args.self.now.cells.now c.args.a c.loop-width.at w) one c.loop-width.invariant.1 in
    longest g.met.E.Element.lawful c.args.self.now.cells.now c.args.self.now.long h.from h.top c.args.self.now.few
    (λ x y. g.met.E.Element.lawful.begins_within x y c.args.limit.now)
    (sym (ap (λ x. m.fits x c.args.limit.now) h.is) ∙ h.fine) stuck
