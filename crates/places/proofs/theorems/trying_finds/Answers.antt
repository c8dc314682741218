use Rattle.places.proofs.Tries.{trying_finds}
use Rattle.places.proofs.theorems.trying_finds.Goals as goal

pub returns : goal.returns
returns c = trying_finds
