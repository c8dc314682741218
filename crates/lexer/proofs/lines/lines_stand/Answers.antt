use Rattle.lexer.proofs.Lining.{lines_stand}
use Rattle.lexer.proofs.lines.lines_stand.Goals as goal

pub returns : goal.returns
returns c = lines_stand
