-- The texts so far, and then those that are left, are those that there were; and the lines are counted.
use Rattle.std.proofs.Common.{◌≡◌, ◌+◌, ◌≤◌, length, vec_items}
use Rattle.std.specs.Iterator.Adapters.{enumerate_source, enumerate_count}
use Rattle.lexer.specs.LinesLeft.{left}
use Rattle.text_report.specs.Reading.{text_measures}
use Rattle.text_report.proofs.ManyTexts.{behind}
use Rattle.text_report.proofs.reading.texts.Given as goal

abbrev pub invariant-loop-before : goal.invariant-loop-before
invariant-loop-before g l =
    let adv = g.M.Metrics.advances l.metrics in
    let lines = left (enumerate_source l.before-iterator) in
    let number = enumerate_count l.before-iterator + 2 in
    (behind (vec_items l.texts) (text_measures adv number lines) ≡ text_measures adv 2 (left l.fn.lines))
    × (number + length lines ≤ 2 + length (left l.fn.lines))
