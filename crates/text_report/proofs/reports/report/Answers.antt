use Rattle.std.proofs.Common.{vec_items, ap, arith}
use Rattle.text_report.specs.Printing.{words_in}
use Rattle.text_report.proofs.Counts.{words_of_file}
use Rattle.text_report.proofs.reports.report.Goals as goal

pub list-requires : goal.list-requires
list-requires c =
    let few = words_of_file c.args.file.now (vec_items c.in-Ok.texts) c.in-Ok.ensures in
    let same = ap words_in c.as_slice.ensures.value in
    omega arith
