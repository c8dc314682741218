use Rattle.metrics.proofs.Nearest.{rounding_is_nearest}
use Rattle.metrics.proofs.rounding.rounding_is_nearest.Goals as goal

pub returns : goal.returns
returns c = rounding_is_nearest
