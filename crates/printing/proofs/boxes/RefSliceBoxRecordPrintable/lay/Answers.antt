use Rattle.std.proofs.Common.{sym, ap, ◌∙◌}
use Rattle.std.specs.List.{flat_map}
use Rattle.rules.specs.Boxes.{totals_of}
use Rattle.printing.specs.Boxes.{box_line, total_line}
use Rattle.printing.specs.Laying.{laid}
use Rattle.printing.specs.Pages.{on}
use Rattle.printing.proofs.Laid.{joins, part_more, part_all}
use Rattle.printing.proofs.boxes.RefSliceBoxRecordPrintable.lay.Goals as goal

pub loop-item-preserved : goal.loop-item-preserved
loop-item-preserved c = record {
  bytes = part_more box_line c.args.self.now.now c.loop-item.item-index _ (on c.loop-item.page) (on c.box_line.new.self) c.loop-item-test.true c.box_line.ensures.bytes ∙ c.loop-item.invariant.bytes;
  memory = cc;
}

pub returns-clause-bytes : goal.returns-clause-bytes
returns-clause-bytes c =
    let boxes = c.args.self.now.now in
    let v = on c.loop-item.page in
    let e = sym (part_all box_line boxes c.loop-item.item-index v c.loop-item-test.false) ∙ c.loop-item.invariant.bytes in
    let f = c.total_line.ensures.bytes ∙ ap (λ t. laid v (total_line t)) c.totalled.ensures in
    joins (flat_map box_line boxes) (total_line (totals_of boxes)) (on c.args.page.now) v (on c.total_line.new.self) e f
