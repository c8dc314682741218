use Rattle.std.proofs.Common.{length, ap, ◌∙◌, arith}
use Rattle.std.proofs.lemmas.Grind.{common_steps}
use Rattle.lexer.specs.LinesLeft.{line_of}
use Rattle.text.specs.Run.{width_of}
use Rattle.text_report.proofs.OneText.{accepted_text, refused_text, refused_measure, all_words, whole_width, measured_text}
use Rattle.text_report.proofs.texts.measure_text.Goals as goal

pub returns-in_err-text : goal.returns-in_err-text
returns-in_err-text g c =
    let adv = g.M.Metrics.advances c.args.metrics.now in
    let text = c.args.line.bytes.now in
    let words = c.args.words.now in
    let cells = c.args.cells.now in
    let made = c.in_err-text.ensures.made in
    let why = refused_text text (length words) (length cells) c.requires.records c.requires.cells _ made.why in
    let all = refused_measure adv c.args.number (line_of c.args.line) _ c.in_ok-closed.ensures why in
    grind (arith, common_steps)

pub returns : goal.returns
returns g c =
    let adv = g.M.Metrics.advances c.args.metrics.now in
    let text = c.args.line.bytes.now in
    let words = c.args.words.now in
    let cells = c.args.cells.now in
    let t = c.in_ok-text.text in
    let fine = c.in_ok-text.ensures.made.0 in
    let made = c.in_ok-text.ensures.made.1 in
    let count = c.count-count.ensures ∙ all_words adv text words cells t c.requires.records c.requires.cells fine made in
    let law = g.met.M.Metrics.ranges c.args.metrics.now in
    let whole = whole_width adv text words cells t c.requires.records c.requires.cells fine made law c.count-count.result c.count-count.ensures in
    let width = c.width-width.ensures ∙ ap (width_of c.fold.result) c.space.ensures ∙ ap (λ r. width_of r t.space) c.fold.ensures ∙ whole in
    measured_text adv c.args.number (line_of c.args.line) _ c.in_ok-closed.ensures
    (accepted_text text (length words) (length cells) c.requires.records c.requires.cells fine)
    (λ j. record { line = c.args.number; words = count j; width = width j })
