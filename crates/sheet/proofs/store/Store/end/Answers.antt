use Rattle.sheet.specs.Stores.{view}
use Rattle.sheet.proofs.Ends.{end_none, end_other, end_own}
use Rattle.sheet.proofs.store.Store.end.Goals as goal

pub returns-in_default-clause-account : goal.returns-in_default-clause-account
returns-in_default-clause-account c = end_none (view c.args.self.now) c.args.slip.number c.in_default.is

pub returns-then-para-slip-clause-account : goal.returns-then-para-slip-clause-account
returns-then-para-slip-clause-account c = end_other (view c.args.self.now) c.args.slip.number c.in-Some.para c.in-Some.is c.if-para-slip.true

pub returns-clause-account : goal.returns-clause-account
returns-clause-account c = end_own (view c.args.self.now) (view c.close.new.self) c.args.slip.number c.in-Some.para c.args.self.now.places c.close.ensures.after c.in-Some.is c.if-para-slip.false
