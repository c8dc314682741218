use Rattle.shapes.proofs.Reals.{made_are_real}
use Rattle.shapes.proofs.theorems.made_are_real.Goals as goal

pub returns : goal.returns
returns c = made_are_real
