use Rattle.words.proofs.Unique.{words_are_these}
use Rattle.words.proofs.laws.words_are_these.Goals as goal

pub returns : goal.returns
returns c = words_are_these
