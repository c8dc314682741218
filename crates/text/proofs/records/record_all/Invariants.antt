-- Writing what is left from here on leaves what writing all the words leaves.
use Rattle.std.proofs.Common.{◌≡◌, ◌+◌, ◌≤◌, map, length}
use Rattle.std.specs.List.{AllByRecursion}
use Rattle.std.proofs.lemmas.List.Edits.{sets}
use Rattle.words.specs.Words.{end, words_of, words_left}
use Rattle.text.specs.Measure.{word_of, measured}
use Rattle.text.proofs.records.record_all.Given as goal

abbrev pub invariant-loop-i : goal.invariant-loop-i
invariant-loop-i g l =
    let adv = g.M.Metrics.advances l.metrics in
    let left = words_left l.i-iterator.iter.text.now l.i-iterator.iter.at in
    record {
      count : l.i-iterator.count + length left ≡ length (words_of l.text);
      list : sets l.words l.i-iterator.count (map (word_of adv l.text) left) ≡ sets l.initial.words 0 (measured adv l.text);
      within : AllByRecursion (λ w. end w ≤ length l.text) left;
    }
