use Rattle.std.proofs.Common.{◌+◌, max, sym, ap, ◌∙◌, subst, ap₂, arith}
use Rattle.rules.specs.declared.boxes.BoxRecord.TheVariants as B
use Rattle.rules.specs.declared.refusals.Refusal.TheVariants.{NoParagraph, NoPlace}
use Rattle.rules.specs.Runs.{panels}
use Rattle.rows.specs.Asked.{wanted}
use Rattle.sheet.specs.Clearance.{with_bottom}
use Rattle.sheet.specs.Told.{Told}
use Rattle.sheet.specs.Stores.{view, panel_answer}
use Rattle.sheet.proofs.Moves.{none_refused, some_found}
use Rattle.sheet.proofs.Panels.{panel_closed, panel_wide, panel_full, panel_nowhere, panel_stands, Ready, Placing}
use Rattle.sheet.proofs.store.Store.panel.Goals as goal

pub returns-in_err-para-clause-account : goal.returns-in_err-para-clause-account
returns-in_err-para-clause-account g c =
    let v = view c.args.self.now in
    let o = wanted c.args.order.side c.args.order.clear (g.S.Shape.model c.args.order.shape) in
    let n = none_refused c.args.self.now.para c.ok_or.result c.from_residual.result NoParagraph _ c.ok_or.ensures.value (c.in_err-para.was) c.from_residual.ensures.1 in
    subst (λ r. Told (panels o) (panel_answer r) v v) (sym n.1) (panel_closed v o n.0)

pub returns-then-width-room-clause-account : goal.returns-then-width-room-clause-account
returns-then-width-room-clause-account g c =
    let is = some_found c.args.self.now.para c.ok_or.result c.in_ok-para.para c.ok_or.ensures.ok_part (c.in_ok-para.was) in
    panel_wide (view c.args.self.now) c.in_ok-para.para _ is (omega (arith, c.width-width.ensures, c.if-width-room.true))

pub returns-then-full-clause-account : goal.returns-then-full-clause-account
returns-then-full-clause-account g c =
    let is = some_found c.args.self.now.para c.ok_or.result c.in_ok-para.para c.ok_or.ensures.ok_part (c.in_ok-para.was) in
    panel_full (view c.args.self.now) c.in_ok-para.para _ is (omega (arith, c.width-width.ensures, c.if-width-room.false)) (sym c.if-full.ensures)

pub returns-in_err-place-clause-account : goal.returns-in_err-place-clause-account
returns-in_err-place-clause-account g c =
    let v = view c.args.self.now in
    let p = c.in_ok-para.para in
    let o = wanted c.args.order.side c.args.order.clear (g.S.Shape.model c.args.order.shape) in
    let is = some_found c.args.self.now.para c.ok_or.result p c.ok_or.ensures.ok_part (c.in_ok-para.was) in
    let n = none_refused c.best_place.result c.ok_or-2.result c.from_residual-in_err-place.result NoPlace _ c.ok_or-2.ensures.value (c.in_err-place.was) c.from_residual-in_err-place.ensures.1 in
    let ready : Ready v p o = record { is_open = is; narrow = omega (arith, c.width-width.ensures, c.if-width-room.false); free = sym c.if-full.ensures; real = g.met.S.Shape.real c.args.order.shape } in
    let told : Placing v p o c.max-start.result c.best_place.result = λ S shows is. c.best_place.ensures.told S o.clear shows is in
    subst (λ r. Told (panels o) (panel_answer r) v v) (sym n.1)
    (panel_nowhere v p o c.max-start.result ready (c.max-start.ensures ∙ ap₂ max c.max.ensures c.cleared.ensures) (subst (Placing v p o c.max-start.result) n.0 told))

pub returns-clause-account : goal.returns-clause-account
returns-clause-account g c =
    let v = view c.args.self.now in
    let p = c.in_ok-para.para in
    let o = wanted c.args.order.side c.args.order.clear (g.S.Shape.model c.args.order.shape) in
    let q = c.in_ok-place.place in
    let is = some_found c.args.self.now.para c.ok_or.result p c.ok_or.ensures.ok_part (c.in_ok-para.was) in
    let stands = some_found c.best_place.result c.ok_or-2.result q c.ok_or-2.ensures.ok_part (c.in_ok-place.was) in
    let ready : Ready v p o = record { is_open = is; narrow = omega (arith, c.width-width.ensures, c.if-width-room.false); free = sym c.if-full.ensures; real = g.met.S.Shape.real c.args.order.shape } in
    let told : Placing v p o c.max-start.result c.best_place.result = λ S shows is. c.best_place.ensures.told S o.clear shows is in
    panel_stands v c.take_in.new.self p o c.max-start.result q _ c.with-self.result (λ i. B.Panel (record { side = c.args.order.side; x = q.x; y = q.y; width = c.width-width.ensures i; height = c.height-height.ensures i })) (c.with-self.ensures ∙ ap (λ h. with_bottom c.args.order.side (q.y + h) v.bottoms) c.height-height.ensures) ready (c.max-start.ensures ∙ ap₂ max c.max.ensures c.cleared.ensures) (subst (Placing v p o c.max-start.result) stands told) c.take_in.ensures.stays c.take_in.ensures.told
