use Rattle.text_report.proofs.Outcomes.{reports_stand}
use Rattle.text_report.proofs.laws.reports_stand.Goals as goal

pub returns : goal.returns
returns c = reports_stand
