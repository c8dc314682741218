use Rattle.places.proofs.Nearest.{line_keeps_down}
use Rattle.places.proofs.theorems.line_keeps_down.Goals as goal

pub returns : goal.returns
returns c = line_keeps_down
