use Rattle.std.proofs.Common.{◌≡◌, drop}
use Rattle.std.specs.List.{flat_map}
use Rattle.printing.specs.Boxes.{box_line}
use Rattle.printing.specs.Laying.{laid}
use Rattle.printing.specs.Pages.{on}
use Rattle.printing.proofs.boxes.RefSliceBoxRecordPrintable.lay.Given as goal

abbrev pub invariant-loop-item : goal.invariant-loop-item
invariant-loop-item l = record {
  bytes : laid (on l.page) (flat_map box_line (drop l.item-index l.boxes)) ≡ laid (on l.initial.page) (flat_map box_line l.boxes);
  memory : l.page.out.ghost_name ≡ l.initial.page.out.ghost_name;
}
