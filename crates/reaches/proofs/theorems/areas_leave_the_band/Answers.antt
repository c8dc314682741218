use Rattle.reaches.proofs.Bands.{areas_leave_the_band}
use Rattle.reaches.proofs.theorems.areas_leave_the_band.Goals as goal

pub returns : goal.returns
returns c = areas_leave_the_band
