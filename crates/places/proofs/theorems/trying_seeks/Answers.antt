use Rattle.places.proofs.Tries.{trying_seeks}
use Rattle.places.proofs.theorems.trying_seeks.Goals as goal

pub returns : goal.returns
returns c = trying_seeks
