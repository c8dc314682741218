use Rattle.std.proofs.Common.{arith}
use Rattle.words.proofs.Steps.{word_left, word_lies}
use Rattle.words.proofs.spans.next_word.Goals as goal

pub returns : goal.returns
returns c =
    let starts = c.word_start-place.ensures.start in
    let stops = c.word_end-end.ensures in
    record { next = word_left _ _ _ _ starts (omega arith) stops; lies = word_lies _ _ _ _ starts (omega arith) stops }
