use Rattle.text_report.proofs.Memory.{memory_suffices}
use Rattle.text_report.proofs.laws.memory_suffices.Goals as goal

pub returns : goal.returns
returns c = memory_suffices
