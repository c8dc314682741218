-- Past the end, and where not even the empty element is within the limit, the run is of no elements.
use Rattle.std.proofs.Common.{sym, ap, ◌∙◌, arith}
use Rattle.segment_tree.specs.Trees.{elements}
use Rattle.segment_tree.proofs.Climbs.{none_past, none_fits}
use Rattle.segment_tree.proofs.LeafLists.{length_leaves}
use Rattle.segment_tree.proofs.segment.Tree.longest_run.Goals as goal
use Rattle.segment_tree.proofs.segment.Tree.longest_run.Goals.{then-a-self-via-then-a-self, then-a-self-via-else-a-self+then-not-within}

pub returns-then-a-self : goal.returns-then-a-self
returns-then-a-self g c =
    let m = g.E.Element in
    let t = c.args.self.now in
    elim c.then-a-self.branch [
      | then-a-self-via-then-a-self w ↦
          let len = length_leaves t.size t.count t.cells.now t.long t.few in
          let h = w.if-a-self.true in
          none_past m.none m.op (λ x. m.fits x c.args.limit.now) (elements t) c.args.a (omega arith)
      | then-a-self-via-else-a-self+then-not-within w ↦
          none_fits g.met.E.Element.lawful (elements t) c.args.a (λ x y. g.met.E.Element.lawful.begins_within x y c.args.limit.now)
          (ap (λ x. m.fits x c.args.limit.now) (sym w.empty.ensures) ∙ sym w.within.ensures ∙ w.if-not-within.true)
    ]
