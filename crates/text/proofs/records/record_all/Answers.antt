use Rattle.std.proofs.Common.{◌≡◌, zero-add}
use Rattle.words.specs.Words.{words_of, words_left}
use Rattle.text.specs.Measure.{word_of}
use Rattle.text.proofs.Laying.{laid_all, words_within}
use Rattle.text.proofs.records.record_all.Goals as goal

pub loop-i-init : goal.loop-i-init
loop-i-init g c =
    let it = c.into_iter-i-iterator.result in
    let none : it.count ≡ 0 = cc in
    let all : words_left it.iter.text.now it.iter.at ≡ words_of c.args.text.now = cc in
    record { count = rw (none, all) (zero-add _); list = rw (none, all); within = rw all (words_within c.args.text.now) }

pub returns : goal.returns
returns g c =
    let text = c.args.text.now in
    let it = c.loop-i.i-iterator in
    let left = words_left it.iter.text.now it.iter.at in
    laid_all (word_of (g.M.Metrics.advances c.args.metrics.now) text) (words_of text) left c.args.words.now c.loop-i.words it.count
    c.in-None.ensures.steps.0.0 c.loop-i.invariant.list c.requires.room
