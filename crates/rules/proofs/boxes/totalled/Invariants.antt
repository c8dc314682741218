use Rattle.std.proofs.Common.{◌≡◌, ◌+◌, drop}
use Rattle.rules.specs.Boxes.{panels_in, lines_in, words_in, held}
use Rattle.rules.proofs.boxes.totalled.Given as goal

-- the counts so far and those of what is left come to the whole, each held
abbrev pub invariant-loop-record : goal.invariant-loop-record
invariant-loop-record l = record {
  panels : held (l.panels + panels_in (drop l.record-index l.boxes)) ≡ held (panels_in l.boxes);
  lines : held (l.lines + lines_in (drop l.record-index l.boxes)) ≡ held (lines_in l.boxes);
  words : held (l.words + words_in (drop l.record-index l.boxes)) ≡ held (words_in l.boxes);
  few_panels : held l.panels ≡ l.panels;
  few_lines : held l.lines ≡ l.lines;
  few_words : held l.words ≡ l.words;
}
