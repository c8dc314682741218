-- The line that a paragraph begins with, field by field. Assumes nothing.
--     para_form most l   what a line `para A B CLEAR K` says: the margins, the sides to clear, and how many items follow, at most `most`
use Rattle.std.specs.Prelude.{ℕ, codes, Result}
use Rattle.lexer.specs.declared.faults.Fault.{Fault}
use Rattle.lexer.specs.Forms.{word, a_number, number_within, take, finish}
use Rattle.lexer.specs.Lines.{FileLine}
use Rattle.lines.specs.declared.paragraphs.ParaLine.{ParaLine}
use Rattle.lines.specs.Names.{a_clear}

abbrev pub para_form : ℕ → FileLine → Result ParaLine Fault
para_form most l =
    take (word (codes "para")) l.bytes 0
    (λ _ p. take a_number l.bytes p
    (λ a q. take a_number l.bytes q
    (λ b r. take a_clear l.bytes r
    (λ c s. take (number_within 0 most) l.bytes s
    (λ k t. finish l.ended l.bytes t (record { left = a; right = b; clear = c; items = k }))))))
