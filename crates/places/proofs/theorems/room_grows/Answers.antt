use Rattle.places.proofs.Nearest.{room_grows}
use Rattle.places.proofs.theorems.room_grows.Goals as goal

pub returns : goal.returns
returns c = room_grows
