use Rattle.std.proofs.Common.{◌≡◌, ◌-◌}
use Rattle.sheet.specs.Sheets.{open_number}
use Rattle.sheet_file.specs.Cursors.{ahead, number}
use Rattle.sheet_file.specs.Done.{Done, Goes}
use Rattle.sheet_file.specs.Plans.{items_plan}
use Rattle.sheet_file.specs.Setters.{setting_of, Holds}
use Rattle.sheet_file.specs.Turns.{Leading, Forward}
use Rattle.sheet_file.proofs.setters.Setter.set_items.Given as goal

abbrev pub invariant-loop : goal.invariant-loop
invariant-loop l =
    let s = l.initial.self in
    let plan = items_plan (setting_of s) in
    (open_number l.self.sheet.now ≡ open_number s.sheet.now)
    × Holds s l.self
    × Forward l.counter s.cursor l.self.cursor
    × Goes (Leading Done (plan l.count (number s.cursor) (ahead s.cursor)) (plan (l.count - l.counter) (number l.self.cursor) (ahead l.self.cursor))) s.sheet.now l.self.sheet.now
