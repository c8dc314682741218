use Rattle.std.proofs.Common.{◌≡◌, arith}
use Rattle.fault_lines.specs.Tellings.{fault_line}
use Rattle.printing.specs.Laying.{counted}
use Rattle.printing.proofs.Short.{fault_short}
use Rattle.printing.proofs.faults.fault_length.Goals as goal

pub returns : goal.returns
returns c =
    let f = c.args.fault in
    let e : c.wanted.result ≡ counted (fault_line f) = c.wanted.ensures in
    let s = fault_short f (omega arith) (omega arith) (omega arith) in
    omega arith
