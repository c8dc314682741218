use Rattle.std.proofs.Common.{◌≡◌, Ok, sym, ◌∙◌, arith}
use Rattle.std.proofs.lemmas.Grind.{common_steps}
use Rattle.lexer.specs.Fields.{next}
use Rattle.lexer.specs.Forms.{reading}
use Rattle.lexer.specs.LinesLeft.{line_of}
use Rattle.lines.specs.declared.names.ItemWord.TheVariants.{Plain}
use Rattle.lines.specs.Items.{box_from}
use Rattle.lines.specs.Names.{an_item}
use Rattle.lines.proofs.Boxes.{plain_read}
use Rattle.lines.proofs.items.fields_line.Goals as goal

pub returns-in_err-end-in-Plain : goal.returns-in_err-end-in-Plain
returns-in_err-end-in-Plain c =
    let l = line_of c.args.line in
    let line : c.new-fields.result.line.bytes.now ≡ l.bytes = (λ i. (c.new-fields.ensures.line i).bytes.now) in
    let word : Ok Plain ≡ reading an_item l.bytes 0 = (λ i. Ok (sym c.in-Plain.is i)) ∙ c.in_ok-take.ensures.value ∙ (λ i. reading an_item (line i) (c.new-fields.ensures.place i)) in
    let place : c.take.new.self.place ≡ next l.bytes 0 = c.take.ensures.stepped.place ∙ (λ i. next (line i) (c.new-fields.ensures.place i)) in
    let bytes : c.take.new.self.line.bytes.now ≡ l.bytes = (λ i. (c.take.ensures.stepped.line i).bytes.now) ∙ line in
    let read = c.in_ok-plain-in-Plain.ensures.value ∙ (λ i. box_from (bytes i) (place i)) in
    let same = plain_read l c.args.shapes c.in_ok-plain-in-Plain.plain c.take_plain.new.fields.place word read in
    grind (arith, common_steps)

pub returns-in_ok-end-in-Plain : goal.returns-in_ok-end-in-Plain
returns-in_ok-end-in-Plain c =
    let l = line_of c.args.line in
    let line : c.new-fields.result.line.bytes.now ≡ l.bytes = (λ i. (c.new-fields.ensures.line i).bytes.now) in
    let word : Ok Plain ≡ reading an_item l.bytes 0 = (λ i. Ok (sym c.in-Plain.is i)) ∙ c.in_ok-take.ensures.value ∙ (λ i. reading an_item (line i) (c.new-fields.ensures.place i)) in
    let place : c.take.new.self.place ≡ next l.bytes 0 = c.take.ensures.stepped.place ∙ (λ i. next (line i) (c.new-fields.ensures.place i)) in
    let bytes : c.take.new.self.line.bytes.now ≡ l.bytes = (λ i. (c.take.ensures.stepped.line i).bytes.now) ∙ line in
    let read = c.in_ok-plain-in-Plain.ensures.value ∙ (λ i. box_from (bytes i) (place i)) in
    let same = plain_read l c.args.shapes c.in_ok-plain-in-Plain.plain c.take_plain.new.fields.place word read in
    grind (arith, common_steps)
