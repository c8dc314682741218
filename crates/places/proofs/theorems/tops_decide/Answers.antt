use Rattle.places.proofs.Firsts.{tops_decide}
use Rattle.places.proofs.theorems.tops_decide.Goals as goal

pub returns : goal.returns
returns c = tops_decide
