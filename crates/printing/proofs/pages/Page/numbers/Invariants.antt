use Rattle.std.proofs.Common.{◌≡◌, drop}
use Rattle.printing.specs.Laying.{laid}
use Rattle.printing.specs.Pages.{on}
use Rattle.std.specs.List.{flat_map}
use Rattle.fault_lines.specs.Fields.{field}
use Rattle.printing.proofs.pages.Page.numbers.Given as goal

abbrev pub invariant-loop-n : goal.invariant-loop-n
invariant-loop-n l = record {
  bytes : laid (on l.self) (flat_map field (drop l.n-index l.list)) ≡ laid (on l.initial.self) (flat_map field l.list);
  memory : l.self.out.ghost_name ≡ l.initial.self.out.ghost_name;
}
