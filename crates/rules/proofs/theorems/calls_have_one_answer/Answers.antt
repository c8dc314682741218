use Rattle.rules.proofs.Replies.{one_answer}
use Rattle.rules.proofs.theorems.calls_have_one_answer.Goals as goal

pub returns : goal.returns
returns c = one_answer
