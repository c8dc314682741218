use Rattle.places.proofs.Nearest.{goes_down}
use Rattle.places.proofs.theorems.rows_go_down.Goals as goal

pub returns : goal.returns
returns c = goes_down
