use Rattle.places.proofs.Nearest.{row_decides}
use Rattle.places.proofs.theorems.row_decides.Goals as goal

pub returns : goal.returns
returns c = row_decides
