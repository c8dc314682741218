use Rattle.places.proofs.Nearest.{one_best}
use Rattle.places.proofs.theorems.one_best_place.Goals as goal

pub returns : goal.returns
returns c = one_best
