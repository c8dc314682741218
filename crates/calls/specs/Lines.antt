-- The lines of a script, field by field: the fields are parted by one space. Assumes nothing.
--     size_form l      what a line `sheet W H L PLACES` says
--     opening_form l   `open L R CLEAR`
--     plain_form l     `box SIDE CLEAR W P`
--     passage_form l   `text FROM REST`; all bytes behind the space after FROM are the text's, and there may be none
--     said r           the same of what the code holds as r
--     word_form w l    just the word w
use Rattle.std.specs.Prelude.{ℕ, cond, List, length, drop, Ok, Err, codes, Result, nat_le}
use Rattle.lexer.specs.declared.faults.Cause.TheVariants.{Field}
use Rattle.lexer.specs.declared.faults.Fault.{Fault}
use Rattle.lexer.specs.Forms.{fault, word, a_number, number_within, take, finish}
use Rattle.lexer.specs.Lines.{FileLine}
use Rattle.calls.specs.declared.asks.Size.{Size}
use Rattle.calls.specs.declared.asks.Opening.{Opening}
use Rattle.calls.specs.declared.asks.Passage.{Passage}
use Rattle.lines.specs.declared.items.PlainLine.{PlainLine}
use Rattle.lines.specs.Names.{a_side, a_clear}

-- the most places of a list
abbrev pub most_places : ℕ
most_places = 1024

abbrev pub size_form : FileLine → Result Size Fault
size_form l =
    take (word (codes "sheet")) l.bytes 0
    (λ _ p. take a_number l.bytes p
    (λ w q. take a_number l.bytes q
    (λ h r. take a_number l.bytes r
    (λ n s. take (number_within 0 most_places) l.bytes s
    (λ k t. finish l.ended l.bytes t (record { sheet = record { width = w; height = h; line = n }; places = k }))))))

abbrev pub opening_form : FileLine → Result Opening Fault
opening_form l =
    take (word (codes "open")) l.bytes 0
    (λ _ p. take a_number l.bytes p
    (λ m q. take a_number l.bytes q
    (λ n r. take a_clear l.bytes r
    (λ c s. finish l.ended l.bytes s (record { margins = record { from = m; to = n }; clear = c })))))

abbrev pub plain_form : FileLine → Result PlainLine Fault
plain_form l =
    take (word (codes "box")) l.bytes 0
    (λ _ p. take a_side l.bytes p
    (λ s q. take a_clear l.bytes q
    (λ c r. take a_number l.bytes r
    (λ w t. take a_number l.bytes t
    (λ h u. finish l.ended l.bytes u (record { side = s; clear = c; width = w; height = h }))))))

abbrev pub word_form : List ℕ → FileLine → Result (Unit {0}) Fault
word_form w l = take (word w) l.bytes 0 (λ _ p. finish l.ended l.bytes p tt)

-- the number of the first word, and the text
abbrev pub Said : Type 0
Said = ℕ × List ℕ

abbrev pub said : Result Passage Fault → Result Said Fault
said (Ok p) = Ok (p.from, p.bytes.now)
said (Err e) = Err e

abbrev pub passage_form : FileLine → Result Said Fault
passage_form l =
    take (word (codes "text")) l.bytes 0
    (λ _ p. take a_number l.bytes p
    (λ n q. cond (nat_le q (length l.bytes)) (Ok (n, drop q l.bytes)) (Err (fault Field q))))
