use Rattle.lexer.proofs.Printed.{numerals_stand}
use Rattle.lexer.proofs.numerals.numerals_stand.Goals as goal

pub returns : goal.returns
returns c = numerals_stand
