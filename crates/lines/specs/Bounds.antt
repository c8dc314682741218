-- Numbers below a bound, as the index of one of so many things. Assumes nothing.
--     number_below n   a number below n; below 0 there is none
use Rattle.std.specs.Prelude.{ℕ, cond, Some, None, Option, nat_lt}
use Rattle.lexer.specs.declared.faults.Cause.TheVariants.{Number}
use Rattle.lexer.specs.Forms.{FieldKind, field_kind}
use Rattle.lexer.specs.Numerals.{numeral}

abbrev pub below : ℕ → Option ℕ → Option ℕ
below n None = None
below n (Some i) = cond (nat_lt i n) (Some i) None

abbrev pub number_below : ℕ → FieldKind ℕ
number_below n = field_kind (λ bs. below n (numeral bs)) Number
