use Rattle.lexer.proofs.Digits.{Sofar}
use Rattle.lexer.proofs.numerals.digits.Given as goal

abbrev pub invariant-loop-b : goal.invariant-loop-b
invariant-loop-b l = Sofar l.bytes l.b-index l.value
