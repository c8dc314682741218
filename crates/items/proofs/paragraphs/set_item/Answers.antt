use Rattle.std.proofs.Common.{length, Err, refl, ap, ◌∙◌}
use Rattle.std.proofs.lemmas.Result.{err_from_is_err_and}
use Rattle.lexer.specs.LinesLeft.{line_of}
use Rattle.lines.specs.Items.{item_of}
use Rattle.items.specs.Shelves.{kept}
use Rattle.items.proofs.Asking.{asked_item, asked_nothing}
use Rattle.items.proofs.paragraphs.set_item.Goals as goal

pub returns-in_err-item-clause-asked : goal.returns-in_err-item-clause-asked
returns-in_err-item-clause-asked g c =
    let p = err_from_is_err_and c.from_residual.result c.from_residual.ensures.1 in
    asked_nothing (g.M.Metrics.advances c.args.metrics.now) (kept c.args.shelf.now) (length c.args.words.now) (length c.args.runs.now) (line_of c.args.line) _ c.args.sheet.now c.args.sheet.now c.count.result c.count.ensures
    c.in_err-item.field-0.0 c.in_err-item.ensures (p.1 ∙ ap Err p.2) refl

pub returns-in-Text-clause-asked : goal.returns-in-Text-clause-asked
returns-in-Text-clause-asked g c =
    asked_item (g.M.Metrics.advances c.args.metrics.now) (kept c.args.shelf.now) (length c.args.words.now) (length c.args.runs.now) (line_of c.args.line) c.flow.result c.args.sheet.now c.flow.new.sheet c.count.result c.count.ensures
    c.in_ok-item.item _ c.in_ok-item.ensures (ap item_of c.in-Text.is) c.flow.ensures.asked

pub returns-in-Plain-clause-asked : goal.returns-in-Plain-clause-asked
returns-in-Plain-clause-asked g c =
    asked_item (g.M.Metrics.advances c.args.metrics.now) (kept c.args.shelf.now) (length c.args.words.now) (length c.args.runs.now) (line_of c.args.line) c.plain.result c.args.sheet.now c.plain.new.sheet c.count.result c.count.ensures
    c.in_ok-item.item _ c.in_ok-item.ensures (ap item_of c.in-Plain.is) c.plain.ensures.asked

pub returns-in-Shaped-clause-asked : goal.returns-in-Shaped-clause-asked
returns-in-Shaped-clause-asked g c =
    asked_item (g.M.Metrics.advances c.args.metrics.now) (kept c.args.shelf.now) (length c.args.words.now) (length c.args.runs.now) (line_of c.args.line) c.shaped.result c.args.sheet.now c.shaped.new.sheet c.count.result c.count.ensures
    c.in_ok-item.item _ c.in_ok-item.ensures (ap item_of c.in-Shaped.is) c.shaped.ensures.asked
