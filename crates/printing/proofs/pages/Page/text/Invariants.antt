use Rattle.std.proofs.Common.{◌≡◌, drop}
use Rattle.printing.specs.Laying.{laid}
use Rattle.printing.specs.Pages.{on}
use Rattle.printing.proofs.pages.Page.text.Given as goal

abbrev pub invariant-loop-code : goal.invariant-loop-code
invariant-loop-code l = record {
  bytes : laid (on l.self) (drop l.code-index l.bytes) ≡ laid (on l.initial.self) l.bytes;
  memory : l.self.out.ghost_name ≡ l.initial.self.out.ghost_name;
}
