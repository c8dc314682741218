use Rattle.places.proofs.Panels.{one_panel_more}
use Rattle.places.proofs.theorems.one_panel_more.Goals as goal

pub returns : goal.returns
returns c = one_panel_more
