use Rattle.std.proofs.Common.{sym, subst, arith}
use Rattle.rules.specs.declared.refusals.Refusal.TheVariants.{NoPlace}
use Rattle.sheet.specs.Told.{WordTold}
use Rattle.sheet.specs.Stores.{view}
use Rattle.sheet.proofs.Moves.{none_refused, some_found}
use Rattle.sheet.proofs.Lines.{word_too_wide, joins, word_full_up, word_nowhere, begins, Seeking}
use Rattle.sheet.proofs.store.Store.word.Goals as goal

pub returns-then-advance-room-clause-account : goal.returns-then-advance-room-clause-account
returns-then-advance-room-clause-account c = word_too_wide (view c.args.self.now) c.args.para _ _ (omega (arith, c.room.ensures, c.if-advance-room.true))

pub returns-in-Some-clause-account : goal.returns-in-Some-clause-account
returns-in-Some-clause-account c = joins (view c.args.self.now) c.args.para _ _ c.in-Some.longer (omega (arith, c.room.ensures, c.if-advance-room.false)) c.in-Some.ensures.joined

pub returns-then-full-clause-account : goal.returns-then-full-clause-account
returns-then-full-clause-account c = word_full_up (view c.args.self.now) c.args.para _ _ (omega (arith, c.room.ensures, c.if-advance-room.false)) c.in_default.ensures.joined (sym c.if-full.ensures)

pub returns-in_err-top-clause-account : goal.returns-in_err-top-clause-account
returns-in_err-top-clause-account c =
    let v = view c.args.self.now in
    let p = c.args.para in
    let n = none_refused c.least_row.result c.ok_or.result c.from_residual.result NoPlace _ c.ok_or.ensures.value (c.in_err-top.was) c.from_residual.ensures.1 in
    let told = subst (Seeking v p c.start_row-start.result c.args.advance) n.0 c.least_row.ensures.told in
    subst (λ r. WordTold p c.args.space c.args.advance r v v) (sym n.1)
    (word_nowhere v p _ _ c.start_row-start.result (omega (arith, c.room.ensures, c.if-advance-room.false)) c.in_default.ensures.joined (sym c.if-full.ensures) c.start_row-start.ensures told)

pub returns-clause-account : goal.returns-clause-account
returns-clause-account c =
    let v = view c.args.self.now in
    let is = some_found c.least_row.result c.ok_or.result c.in_ok-top.top c.ok_or.ensures.ok_part (c.in_ok-top.was) in
    let told = subst (Seeking v c.args.para c.start_row-start.result c.args.advance) is c.least_row.ensures.told in
    begins v (view c.close.new.self) c.args.para _ _ c.start_row-start.result c.in_ok-top.top _ (omega (arith, c.room.ensures, c.if-advance-room.false)) c.args.self.now.places c.in_default.ensures.joined (sym c.if-full.ensures) c.start_row-start.ensures told c.close.ensures.after c.max-self.ensures
