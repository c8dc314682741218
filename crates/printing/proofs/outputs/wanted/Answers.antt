use Rattle.std.proofs.Common.{[]}
use Rattle.printing.proofs.Laid.{counted_all}
use Rattle.printing.proofs.outputs.wanted.Goals as goal

pub returns : goal.returns
returns g c = counted_all (g.P.Printable.bytes c.args.item.now) [] c.lay_at_front.result c.lay_at_front.new.out c.lay_at_front.ensures
