-- What is printed, and then the lines of the texts that are left, are the lines of all texts.
use Rattle.std.proofs.Common.{◌≡◌, ◌++◌, drop, string_bytes}
use Rattle.std.specs.List.{flat_map}
use Rattle.text_report.specs.Measures.{text_line}
use Rattle.text_report.proofs.printing.list.Given as goal

abbrev pub invariant-loop-text : goal.invariant-loop-text
invariant-loop-text l = string_bytes l.out ++ flat_map text_line (drop l.text-index l.texts) ≡ flat_map text_line l.texts
