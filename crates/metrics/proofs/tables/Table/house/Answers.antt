use Rattle.metrics.specs.House.{house_widths}
use Rattle.metrics.specs.Making.{MakesTable}
use Rattle.metrics.proofs.HouseTable.{house_made}
use Rattle.metrics.proofs.tables.Table.house.Goals as goal

-- the rule, computed at each of the 95 widths
ruled : (c : goal.After-new) → MakesTable house_widths c.args.size c.new.result
unfolding house_widths
ruled c = c.new.ensures

pub returns : goal.returns
returns c = house_made c.args.size c.new.result (ruled c)
