use Rattle.std.proofs.Common.{sym}
use Rattle.std.proofs.lemmas.Option.{MatchOption-at_some}
use Rattle.sheet.proofs.Fresh.{made_refused, made_new}
use Rattle.sheet.proofs.store.Store.new.Goals as goal

pub returns-then-is_some-clause-fresh : goal.returns-then-is_some-clause-fresh
returns-then-is_some-clause-fresh c = made_refused c.args.size c.args.cells.now c.args.list.now c.empty.result c.vacant.result c.fault.result (sym c.fault.ensures) (sym c.if-is_some.ensures) c.empty.ensures.view c.vacant.ensures

pub returns-clause-fresh : goal.returns-clause-fresh
returns-clause-fresh c = made_new c.args.size c.args.cells.now c.args.list.now c.empty-2.result c.unwrap-rows.result c.fault.result (sym c.fault.ensures) (sym c.if-is_some.ensures) c.empty-2.ensures.view (MatchOption-at_some _ _ _ c.unwrap-rows.ensures c.new.ensures)
