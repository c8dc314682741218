use Rattle.rules.proofs.Right.{right}
use Rattle.rules.proofs.theorems.runs_are_right.Goals as goal

pub returns : goal.returns
returns c = right
