use Rattle.std.proofs.Common.{sym, ◌∙◌, subst}
use Rattle.sheet.specs.Steps.{Closed, shut_by}
use Rattle.sheet.specs.Stores.{view}
use Rattle.sheet.proofs.Lines.{closed_at}
use Rattle.sheet.proofs.store.Store.close.Goals as goal

pub returns-in-Some-clause-after : goal.returns-in-Some-clause-after
returns-in-Some-clause-after c =
    let v = view c.args.self.now in
    subst (λ n. Closed v c.args.margins (record (shut_by c.box_of.result c.in-Some.words v) { current = n })) (sym c.take.ensures.after)
    (closed_at v c.args.margins c.in-Some.words c.band-band.result c.box_of.result (sym c.take.ensures.value ∙ c.in-Some.is) c.box_of.ensures c.band-band.ensures)
