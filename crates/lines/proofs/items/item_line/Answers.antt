use Rattle.std.proofs.Common.{Ok, sym, ap, ◌∙◌, arith}
use Rattle.std.proofs.lemmas.Grind.{common_steps}
use Rattle.lexer.specs.Forms.{after}
use Rattle.lexer.specs.LinesLeft.{line_of}
use Rattle.lines.specs.Items.{text}
use Rattle.lines.proofs.Texts.{text_there, text_missing}
use Rattle.lines.proofs.items.item_line.Goals as goal

pub returns-in_default : goal.returns-in_default
returns-in_default c =
    let same = text_missing c.args.shapes (line_of c.args.line) c.in_default.ensures in cc

pub returns-in_err-closed : goal.returns-in_err-closed
returns-in_err-closed c =
    let same = text_there c.args.shapes (line_of c.args.line) c.in-Some.text.now c.in-Some.ensures in
    let e = ap (λ r. after r (λ _. Ok (text c.in-Some.text.now))) (sym c.closed.ensures ∙ c.in_err-closed.was) in
    grind (arith, common_steps)

pub returns : goal.returns
returns c =
    let same = text_there c.args.shapes (line_of c.args.line) c.in-Some.text.now c.in-Some.ensures in
    sym (same ∙ ap (λ r. after r (λ _. Ok (text c.in-Some.text.now))) (sym c.closed.ensures ∙ c.in_ok-closed.was))
