use Rattle.std.proofs.Common.{sym, refl, ap, ◌∙◌, arith}
use Rattle.std.proofs.lemmas.List.{length-take-le}
use Rattle.std.proofs.lemmas.Bool.{eqb-true, eqb-false}
use Rattle.std.proofs.lemmas.Grind.{common_steps}
use Rattle.lexer.specs.FieldsLeft.{seen}
use Rattle.lexer.proofs.Places.{width_past, width_rest, field_missing, field_there}
use Rattle.lexer.proofs.fields.Fields.next.Goals as goal

pub returns-in_err-rest : goal.returns-in_err-rest
returns-in_err-rest c =
    let line = c.args.self.now.line.bytes.now in
    let p = c.args.self.now.place in
    let m = field_missing line p (width_past line p (grind (arith, common_steps))) in
    record { value = ap seen c.from_residual.ensures ∙ m.0; stepped = record { line = refl; place = m.1 } }

pub returns-then-is_empty : goal.returns-then-is_empty
returns-then-is_empty c =
    let line = c.args.self.now.line.bytes.now in
    let p = c.args.self.now.place in
    let e = c.run-width.ensures.value ∙ width_rest line p _ c.in_ok-rest.ensures.lookup.0.2 in
    let short = length-take-le _ _ c.run-width.ensures.within in
    let empty = eqb-true _ _ (sym c.if-is_empty.ensures) in
    let m = field_missing line p (sym e ∙ sym short ∙ empty) in
    record { value = m.0; stepped = record { line = refl; place = m.1 } }

pub returns : goal.returns
returns c =
    let line = c.args.self.now.line.bytes.now in
    let p = c.args.self.now.place in
    let part = c.in_ok-rest.ensures.lookup.0.2 in
    let e = c.run-width.ensures.value ∙ width_rest line p _ part in
    let short = length-take-le _ _ c.run-width.ensures.within in
    let some = eqb-false _ _ (sym c.if-is_empty.ensures) in
    let t = field_there line p _ part c.run-width.result e (λ z. some (short ∙ z)) in
    record { value = t.0; stepped = record { line = refl; place = t.1 } }
