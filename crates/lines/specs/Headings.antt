-- The line that says what sheet it is, field by field. Assumes nothing.
--     sheet_form l    what a line `sheet W H L` says: the sheet's width and height, and the height of its lines
--     Sized           these three numbers, and the place behind them
--     size_from l p   `W H L` from the place p of the line l on, and the place behind it
--     sized p r       the three numbers that the code holds as r, with the place p
use Rattle.std.specs.Prelude.{ℕ, List, Ok, Err, codes, Result}
use Rattle.lexer.specs.declared.faults.Fault.{Fault}
use Rattle.lexer.specs.Forms.{word, a_number, take, finish}
use Rattle.lexer.specs.Lines.{FileLine}
use Rattle.lines.specs.declared.headings.SheetLine.{SheetLine}

abbrev pub sheet_form : FileLine → Result SheetLine Fault
sheet_form l =
    take (word (codes "sheet")) l.bytes 0
    (λ _ p. take a_number l.bytes p
    (λ w q. take a_number l.bytes q
    (λ h r. take a_number l.bytes r
    (λ n s. finish l.ended l.bytes s (record { width = w; height = h; line = n })))))

-- a sheet's size, and the place behind it
pub record Sized : Type 0 where
  pub size : SheetLine
  pub place : ℕ

abbrev pub size_from : List ℕ → ℕ → Result Sized Fault
size_from line p =
    take a_number line p
    (λ w q. take a_number line q
    (λ h r. take a_number line r
    (λ n s. Ok (record { size = record { width = w; height = h; line = n }; place = s }))))

abbrev pub sized : ℕ → Result SheetLine Fault → Result Sized Fault
sized p (Ok s) = Ok (record { size = s; place = p })
sized p (Err e) = Err e
