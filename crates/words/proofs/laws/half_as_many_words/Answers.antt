use Rattle.words.proofs.Walks.{half_as_many_words}
use Rattle.words.proofs.laws.half_as_many_words.Goals as goal

pub returns : goal.returns
returns c = half_as_many_words
