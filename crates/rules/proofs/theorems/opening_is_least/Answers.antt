use Rattle.rules.proofs.Replies.{opening_is_least}
use Rattle.rules.proofs.theorems.opening_is_least.Goals as goal

pub returns : goal.returns
returns c = opening_is_least
