use Rattle.rules.proofs.Orders.{orderly}
use Rattle.rules.proofs.theorems.runs_are_orderly.Goals as goal

pub returns : goal.returns
returns c = orderly
