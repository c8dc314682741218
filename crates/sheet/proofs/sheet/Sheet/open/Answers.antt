use Rattle.sheet.proofs.Sheets.{reached, ever, tells}
use Rattle.sheet.proofs.sheet.Sheet.open.Goals as goal

pub invariant_of-self : goal.invariant_of-self
invariant_of-self c = record { reached = reached c.args.self.now c.open.ensures.account }

pub returns-clause-ever : goal.returns-clause-ever
returns-clause-ever c = ever c.args.self.now c.open.ensures.account

pub returns-clause-account : goal.returns-clause-account
returns-clause-account c = tells c.args.self.now c.open.ensures.account
