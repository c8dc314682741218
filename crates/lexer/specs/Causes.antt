-- The numbers by which causes are reported. Assumes nothing.
--     cause_number c   the number of the cause c
use Rattle.std.specs.Prelude.{ℕ}
use Rattle.lexer.specs.declared.faults.Cause.{Cause}
use Rattle.lexer.specs.declared.faults.Cause.TheVariants.{Keyword, Number, Field}

abbrev pub cause_number : Cause → ℕ
cause_number Keyword = 8
cause_number Number = 9
cause_number Field = 10
