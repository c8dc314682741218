use Rattle.std.proofs.Common.{◌-◌}
use Rattle.sheet_file.specs.Cursors.{ahead, number}
use Rattle.sheet_file.specs.Done.{ParasDone, Goes}
use Rattle.sheet_file.specs.Plans.{paras_plan}
use Rattle.sheet_file.specs.Setters.{setting_of, Holds}
use Rattle.sheet_file.specs.Turns.{Leading}
use Rattle.sheet_file.proofs.setters.Setter.set_paragraphs.Given as goal

abbrev pub invariant-loop : goal.invariant-loop
invariant-loop l =
    let s = l.initial.self in
    let plan = paras_plan (setting_of s) in
    Holds s l.self
    × Goes (Leading ParasDone (plan l.count (number s.cursor) (ahead s.cursor)) (plan (l.count - l.counter) (number l.self.cursor) (ahead l.self.cursor))) s.sheet.now l.self.sheet.now
