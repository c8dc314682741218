use Rattle.words.proofs.Walks.{words_are_runs}
use Rattle.words.proofs.laws.words_are_runs.Goals as goal

pub returns : goal.returns
returns c = words_are_runs
