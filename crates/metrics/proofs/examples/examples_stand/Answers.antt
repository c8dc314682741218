use Rattle.std.proofs.Common.{refl}
use Rattle.metrics.specs.House.{house_widths}
use Rattle.metrics.proofs.examples.examples_stand.Goals as goal

pub returns : goal.returns
unfolding house_widths
returns c = refl
