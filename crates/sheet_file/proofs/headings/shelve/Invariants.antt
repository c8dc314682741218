use Rattle.std.proofs.Common.{◌≡◌, ◌-◌, [], length}
use Rattle.items.specs.Shelves.{kept}
use Rattle.sheet_file.specs.Cursors.{ahead, number}
use Rattle.sheet_file.specs.Plans.{shapes_plan}
use Rattle.sheet_file.specs.Turns.{Forward}
use Rattle.sheet_file.proofs.headings.shelve.Given as goal

abbrev pub invariant-loop : goal.invariant-loop
invariant-loop l =
    Forward l.counter l.initial.cursor l.cursor
    × (length (kept l.shelf) ≡ l.counter)
    × (shapes_plan l.count (number l.initial.cursor) (ahead l.initial.cursor) [] ≡ shapes_plan (l.count - l.counter) (number l.cursor) (ahead l.cursor) (kept l.shelf))
