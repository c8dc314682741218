use Rattle.places.proofs.Tries.{one_least}
use Rattle.places.proofs.theorems.one_least_row.Goals as goal

pub returns : goal.returns
returns c = one_least
