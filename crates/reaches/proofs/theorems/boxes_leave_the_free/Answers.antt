use Rattle.reaches.proofs.Bands.{boxes_leave_the_free}
use Rattle.reaches.proofs.theorems.boxes_leave_the_free.Goals as goal

pub returns : goal.returns
returns c = boxes_leave_the_free
