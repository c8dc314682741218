use Rattle.std.proofs.Common.{sym}
use Rattle.sheet.specs.Stores.{view}
use Rattle.sheet.proofs.Opens.{open_taken, open_many, open_narrow, opens_at}
use Rattle.sheet.proofs.store.Store.open.Goals as goal

pub returns-then-is_some-clause-account : goal.returns-then-is_some-clause-account
returns-then-is_some-clause-account c = open_taken (view c.args.self.now) c.args.margins c.args.clear (sym c.if-is_some.ensures)

pub returns-then-self-ge-MOST_PARAGRAPHS-clause-account : goal.returns-then-self-ge-MOST_PARAGRAPHS-clause-account
returns-then-self-ge-MOST_PARAGRAPHS-clause-account c = open_many (view c.args.self.now) c.args.margins c.args.clear (sym c.if-is_some.ensures) c.if-self-ge-MOST_PARAGRAPHS.true

pub returns-then-not-leave_a_unit-clause-account : goal.returns-then-not-leave_a_unit-clause-account
returns-then-not-leave_a_unit-clause-account c = open_narrow (view c.args.self.now) c.args.margins c.args.clear (sym c.if-is_some.ensures) c.if-self-ge-MOST_PARAGRAPHS.false (let w = c.width.ensures in let u = c.if-not-leave_a_unit.ensures in cc)

pub returns-clause-account : goal.returns-clause-account
returns-clause-account c = opens_at (view c.args.self.now) c.args.margins c.args.clear _ (sym c.if-is_some.ensures) c.if-self-ge-MOST_PARAGRAPHS.false (let w = c.width.ensures in let u = c.if-not-leave_a_unit.ensures in cc) (let a = c.max-self.ensures in let b = c.cleared.ensures in cc)
