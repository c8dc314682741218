use Rattle.std.proofs.Common.{Err, refl, ap, ◌∙◌}
use Rattle.std.proofs.lemmas.Result.{err_from_is_err_and}
use Rattle.shapes.specs.Made.{answered}
use Rattle.rules.specs.Runs.{stands, refused}
use Rattle.items.proofs.Asking.{asked_panel}
use Rattle.items.proofs.panels.place.Goals as goal

pub returns-in_err-panel-clause-asked : goal.returns-in_err-panel-clause-asked
returns-in_err-panel-clause-asked g c =
    let p = err_from_is_err_and c.from_residual-in_err-panel.result c.from_residual-in_err-panel.ensures.1 in
    asked_panel c.args.side c.args.clear (answered g.S.Shape.model c.args.shape) (g.S.Shape.model c.in_ok-shape.shape) (refused c.in_err-panel.field-0.0) _ c.args.sheet.now c.panel.new.self
    (ap (answered g.S.Shape.model) c.in_ok-shape.was) c.in_err-panel.ensures.account (p.1 ∙ ap Err p.2)

pub returns-clause-asked : goal.returns-clause-asked
returns-clause-asked g c =
    asked_panel c.args.side c.args.clear (answered g.S.Shape.model c.args.shape) (g.S.Shape.model c.in_ok-shape.shape) (stands c.in_ok-panel.field-0.x c.in_ok-panel.field-0.y) _ c.args.sheet.now c.panel.new.self
    (ap (answered g.S.Shape.model) c.in_ok-shape.was) c.in_ok-panel.ensures.account refl
