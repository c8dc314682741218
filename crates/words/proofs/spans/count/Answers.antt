use Rattle.std.proofs.Common.{arith, inl}
use Rattle.words.proofs.Walks.{half_as_many_words}
use Rattle.words.proofs.spans.count.Goals as goal

pub count-requires-clause-fits : goal.count-requires-clause-fits
count-requires-clause-fits c =
    inl (rw (c.new.ensures.text, c.new.ensures.all) (omega (arith, half_as_many_words c.args.text.now)))
