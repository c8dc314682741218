use Rattle.calls.proofs.turns.spend.Goals as goal

pub returns : goal.returns
returns c = rw c.unwrap.ensures at c.end.ensures.account
