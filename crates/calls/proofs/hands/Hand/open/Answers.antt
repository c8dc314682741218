use Rattle.std.proofs.Common.{Option, sym, ◌∙◌, subst}
use Rattle.sheet.specs.declared.slips.Slip.{Slip}
use Rattle.sheet.specs.Sheets.{fields}
use Rattle.calls.specs.Hands.{InHand}
use Rattle.calls.proofs.Opened.{opens_no_other}
use Rattle.calls.proofs.hands.Hand.open.Goals as goal

pub unreachable-requires : goal.unreachable-requires
unreachable-requires c =
    let s = c.args.self.now.sheet in
    let own = subst (λ (o : Option Slip). InHand o s) (sym c.replace.ensures.value ∙ c.in-Some.is) c.args.self.now.own in
    opens_no_other (fields s) (fields c.open.new.self) c.args.opening.margins c.args.opening.clear c.in-Some.field-0.number c.in_ok-slip.slip.number s.reached own
    (λ z past k. (c.in_ok-slip.ensures.account z past k).0)
