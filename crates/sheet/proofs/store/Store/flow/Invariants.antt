use Rattle.std.proofs.Common.{◌≡◌, ◌-◌, ◌≤◌, Some}
use Rattle.sheet.specs.Told.{Flowing}
use Rattle.sheet.specs.Stores.{view, Sets, advances_in}
use Rattle.sheet.proofs.store.Store.flow.Given as goal

abbrev pub invariant-loop-i : goal.invariant-loop-i
invariant-loop-i l =
    (l.from ≤ l.i)
    × (l.self.para ≡ Some l.para)
    × Sets l.initial.self l.self
    × (l.i ≡ l.from → view l.self ≡ view l.initial.self)
    × Flowing l.para l.text.space (advances_in l.text) l.from l.i (view l.initial.self) (view l.self)

abbrev pub decreases-loop-i : goal.decreases-loop-i
decreases-loop-i l = l.count - l.i
