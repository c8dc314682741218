use Rattle.std.proofs.Common.{length}
use Rattle.sheet.specs.Stores.{flow_answer}
use Rattle.items.proofs.Asking.{asked_text}
use Rattle.items.proofs.texts.flow.Goals as goal

pub returns-clause-asked : goal.returns-clause-asked
returns-clause-asked g c =
    let made = c.in_ok-measured.ensures.made in
    asked_text (g.M.Metrics.advances c.args.metrics.now) c.args.text.now (length c.args.words.now) (length c.args.runs.now) c.in_ok-measured.measured (flow_answer c.flow.result) c.complete.result c.args.sheet.now c.flow.new.self
    made.0 made.1.which made.1.space c.flow.ensures.account c.complete.ensures
