use Rattle.std.proofs.Common.{◌≡◌, map, take, length, sym, ap, ◌∙◌, arith}
use Rattle.std.proofs.lemmas.List.{length-take}
use Rattle.text.specs.Measure.{run_of}
use Rattle.text.proofs.Measuring.{short, room, laid_fits}
use Rattle.text.proofs.texts.Text.new.Goals as goal

pub invariant_of-result-clause-alike : goal.invariant_of-result-clause-alike
invariant_of-result-clause-alike g c =
    let new = c.record_all.new.words in
    let enough = room c.args.text.now (length c.args.words.now) (length c.args.cells.now) (sym c.in-Ok.ensures.fault) in
    let n : c.in-Ok.count ≡ c.tree_of-runs.result.count = omega (arith, c.tree_of-runs.ensures.count, c.in-Ok.ensures.count, c.record_all.auto.words, length-take c.in-Ok.count new) in
    c.tree_of-runs.ensures.after ∙ ap (λ k. map run_of (take k new)) n

pub invariant_of-result-clause-wide : goal.invariant_of-result-clause-wide
invariant_of-result-clause-wide g c =
    let text = c.args.text.now in
    let words = c.args.words.now in
    let adv = g.M.Metrics.advances c.args.metrics.now in
    let law = g.met.M.Metrics.ranges c.args.metrics.now in
    let few = short text (length words) (length c.args.cells.now) (sym c.in-Ok.ensures.fault) in
    let fits = laid_fits adv text words c.record_all.new.words c.record_all.ensures law few in
    λ k h. fits k (omega (arith, c.tree_of-runs.ensures.count, c.in-Ok.ensures.count, length-take c.in-Ok.count c.record_all.new.words))
