use Rattle.places.proofs.Bands.{band_is_left}
use Rattle.places.proofs.theorems.band_is_what_is_left.Goals as goal

pub returns : goal.returns
returns c = band_is_left
