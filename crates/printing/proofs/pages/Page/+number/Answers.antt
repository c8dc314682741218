use Rattle.std.proofs.Common.{◌+◌, ◌/◌, ◌%◌, [], ◌∷◌, decimal, sym, ap, ◌∙◌, arith}
use Rattle.std.proofs.lemmas.Fmt.{decimal_digit, decimal_step}
use Rattle.printing.specs.Laying.{laid}
use Rattle.printing.specs.Pages.{on}
use Rattle.printing.proofs.Laid.{joins}
use Rattle.printing.proofs.pages.Page.+number.Goals as goal

pub returns-then-n-lt10-clause-bytes : goal.returns-then-n-lt10-clause-bytes
returns-then-n-lt10-clause-bytes t c = rw (decimal_digit c.args.n (omega arith)) c.byte.ensures.bytes

pub returns-clause-bytes : goal.returns-clause-bytes
returns-clause-bytes t c =
    let n = c.args.n in
    let u = on c.args.self.now in
    let e = joins (decimal (n / 10)) ((48 + n % 10) ∷ []) u (on c.number.new.self) (on c.byte-2.new.self) c.number.ensures.bytes c.byte-2.ensures.bytes in
    e ∙ ap (laid u) (sym (decimal_step n (omega arith) (omega arith)))
