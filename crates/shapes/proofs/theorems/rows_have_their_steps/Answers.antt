use Rattle.shapes.proofs.Staircases.{rows_have_steps}
use Rattle.shapes.proofs.theorems.rows_have_their_steps.Goals as goal

pub returns : goal.returns
returns c = rows_have_steps
