use Rattle.std.proofs.Common.{arith}
use Rattle.lexer.specs.LinesLeft.{left}
use Rattle.text_report.proofs.Counts.{length_left}
use Rattle.text_report.proofs.reading.measures.Goals as goal

pub texts-requires : goal.texts-requires
texts-requires c =
    omega (arith, length_left c.args.file.now (left c.new-lines.result) c.next.result (left c.next.new.self) c.new-lines.ensures c.next.ensures.steps)
