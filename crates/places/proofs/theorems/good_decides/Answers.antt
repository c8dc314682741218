use Rattle.places.proofs.Nearest.{good_decides}
use Rattle.places.proofs.theorems.good_decides.Goals as goal

pub returns : goal.returns
returns c = good_decides
