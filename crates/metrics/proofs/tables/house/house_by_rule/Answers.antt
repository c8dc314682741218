use Rattle.metrics.proofs.HouseTable.{house_by_rule}
use Rattle.metrics.proofs.tables.house.house_by_rule.Goals as goal

pub returns : goal.returns
returns c = house_by_rule
