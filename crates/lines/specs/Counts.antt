-- The lines that say how many of something follow. Assumes nothing.
--     count_form w most l       what a line `w N` says: the number N, which is at most `most`
--     shapes_form most l        `shapes N`
--     paragraphs_form most l    `paragraphs N`
use Rattle.std.specs.Prelude.{ℕ, List, codes, Result}
use Rattle.lexer.specs.declared.faults.Fault.{Fault}
use Rattle.lexer.specs.Forms.{word, number_within, take, finish}
use Rattle.lexer.specs.Lines.{FileLine}

abbrev pub count_form : List ℕ → ℕ → FileLine → Result ℕ Fault
count_form w most l =
    take (word w) l.bytes 0
    (λ _ p. take (number_within 0 most) l.bytes p
    (λ n q. finish l.ended l.bytes q n))

abbrev pub shapes_form : ℕ → FileLine → Result ℕ Fault
shapes_form most l = count_form (codes "shapes") most l

abbrev pub paragraphs_form : ℕ → FileLine → Result ℕ Fault
paragraphs_form most l = count_form (codes "paragraphs") most l
