use Rattle.std.proofs.Common.{◌+◌, Ok, Err, sym, ◌∙◌, subst, arith}
use Rattle.sheet.specs.Told.{WordTold}
use Rattle.sheet.specs.Stores.{view, advances_in}
use Rattle.sheet.proofs.Moves.{sets_then}
use Rattle.sheet.proofs.Flows.{flow_closed, flow_then, flow_one, flow_ends, flow_stops}
use Rattle.sheet.proofs.Stretches.{word_at, past_all}
use Rattle.sheet.proofs.store.Store.flow.Goals as goal

pub returns-in_default-clause-account : goal.returns-in_default-clause-account
returns-in_default-clause-account c = flow_closed (view c.args.self.now) _ _ _ c.in_default.is

pub loop-i-preserved : goal.loop-i-preserved
loop-i-preserved c =
    let t = c.args.text.now in
    let v = view c.args.self.now in
    let s = view c.loop-i.self in
    let w = view c.word-in-loop-i.new.self in
    let x = view c.stretch-i.new.self in
    let i = c.loop-i.i in
    let inv = c.loop-i.invariant in
    let on = c.stretch-i.ensures.on in
    let at = word_at t i c.unwrap-word.result (sym c.unwrap-word.ensures ∙ c.word.ensures.answer) in
    let told : WordTold c.in-Some.para t.space c.unwrap-word.result.advance (Ok tt) s w = subst (λ sp. WordTold c.in-Some.para sp c.unwrap-word.result.advance (Ok tt) s w) c.space.ensures c.in_default-word.ensures.account in
    let one = flow_one s w c.in-Some.para t.space _ (advances_in t) i at.0 at.1 told in
    let here = flow_then v s w c.in-Some.para t.space (advances_in t) c.args.from i (i + 1) inv.0 (omega arith) inv.4 one in (
      omega (arith, on, inv.0),
      c.stretch-i.ensures.sets.para ∙ c.word-in-loop-i.ensures.sets.para ∙ inv.1,
      sets_then _ _ _ (sets_then _ _ _ inv.2 c.word-in-loop-i.ensures.sets) c.stretch-i.ensures.sets,
      (λ e. absurd (omega (arith, on, inv.0, e))),
      flow_then v w x c.in-Some.para t.space (advances_in t) c.args.from (i + 1) c.stretch-i.result (omega (arith, inv.0)) on here c.stretch-i.ensures.account,
    )

pub returns-in-Err-clause-account : goal.returns-in-Err-clause-account
returns-in-Err-clause-account c =
    let t = c.args.text.now in
    let s = view c.loop-i.self in
    let w = view c.word-in-loop-i.new.self in
    let e = c.in-Err.refusal in
    let at = word_at t c.loop-i.i c.unwrap-word.result (sym c.unwrap-word.ensures ∙ c.word.ensures.answer) in
    let told : WordTold c.in-Some.para t.space c.unwrap-word.result.advance (Err e) s w = subst (λ sp. WordTold c.in-Some.para sp c.unwrap-word.result.advance (Err e) s w) c.space.ensures c.in-Err.ensures.account in
    flow_stops (view c.args.self.now) s w c.in-Some.para t.space _ (advances_in t) c.args.from c.loop-i.i e c.in-Some.is at.0 at.1 c.loop-i.invariant.4 told

pub returns-clause-account : goal.returns-clause-account
returns-clause-account c = flow_ends (view c.args.self.now) (view c.loop-i.self) c.in-Some.para _ (advances_in c.args.text.now) c.args.from c.loop-i.i c.in-Some.is (past_all c.args.text.now c.loop-i.i (omega (arith, c.count-count.ensures))) c.loop-i.invariant.4
