use Rattle.std.proofs.Common.{◌≡◌, ℕ, length, subst}
use Rattle.rules.specs.Runs.{flows}
use Rattle.sheet.specs.Stores.{advances_in, flow_answer}
use Rattle.sheet.specs.Sheets.{Tells}
use Rattle.calls.proofs.Flowing.{flow_told}
use Rattle.calls.proofs.turns.flow.Goals as goal

pub returns-clause-told : goal.returns-clause-told
returns-clause-told g c =
    let t = c.in_ok-text.text in
    let made = c.in_ok-text.ensures.made in
    let s = c.args.sheet.now in
    let u = c.flow.new.self in
    let from : c.from.result ≡ c.args.passage.from = cc in
    flow_told (g.M.Metrics.advances c.args.metrics.now) c.args.passage.bytes.now (length c.args.words.now) (length c.args.runs.now) c.args.passage.from t c.flow.result s u made.0
    made.1.which made.1.space
    (subst (λ (n : ℕ). Tells (flows (advances_in t) t.space n) (flow_answer c.flow.result) s u) from c.flow.ensures.account)
