-- The first leaves are the runs of the first words.
use Rattle.std.proofs.Common.{◌≡◌, map, take}
use Rattle.segment_tree.specs.Trees.{laid, KeptLeaves}
use Rattle.text.specs.Measure.{run_of}
use Rattle.text.proofs.texts.making.lay_runs.Given as goal

abbrev pub invariant-loop-i : goal.invariant-loop-i
invariant-loop-i l = record {
  kept : KeptLeaves l.initial.runs l.runs;
  laid : take l.i (laid l.runs) ≡ map run_of (take l.i l.words);
}
