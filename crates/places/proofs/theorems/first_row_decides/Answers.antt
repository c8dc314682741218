use Rattle.places.proofs.Firsts.{first_row_decides}
use Rattle.places.proofs.theorems.first_row_decides.Goals as goal

pub returns : goal.returns
returns c = first_row_decides
