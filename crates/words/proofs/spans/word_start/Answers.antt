use Rattle.std.proofs.Common.{◌+◌, drop, rules, tests, ap, ◌∙◌, arith}
use Rattle.std.proofs.lemmas.List.Folds.{length-prefix_len}
use Rattle.std.proofs.lemmas.Iterator.{YieldsList-from_slice}
use Rattle.std.proofs.lemmas.Iterator.Consumers.{count_from_yields_List, YieldsList-at}
use Rattle.std.proofs.lemmas.Iterator.Search.{YieldsList-from_take_while}
use Rattle.words.specs.Words.{blank}
use Rattle.words.proofs.Steps.{none_left}
use Rattle.words.proofs.spans.word_start.Goals as goal

pub returns-clause-start : goal.returns-clause-start
returns-clause-start c =
    let text = c.args.text.now in
    let at = c.args.from in
    ap (λ n. at + n)
    (count_from_yields_List c.take_while.result _ c.count.ensures.ran (YieldsList-from_take_while _ blank (YieldsList-at c.take_while.ensures.source (YieldsList-from_slice (drop at text) (cc))) c.take_while.ensures.closure c.take_while.ensures.done (λ x b q k. search (rules, tests)))
    ∙ length-prefix_len blank (drop at text))

pub returns-clause-none : goal.returns-clause-none
returns-clause-none c = λ over. none_left c.args.text.now c.args.from (omega (arith, returns-clause-start c))
