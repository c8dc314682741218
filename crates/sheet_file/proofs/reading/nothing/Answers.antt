use Rattle.std.proofs.Common.{[], length, Some}
use Rattle.sheet_file.specs.Done.{all_ended}
use Rattle.sheet_file.specs.Plans.{no_size, stopped}
use Rattle.sheet_file.proofs.Lying.{laid_by}
use Rattle.sheet_file.proofs.reading.nothing.Goals as goal

pub returns-clause-laid : goal.returns-clause-laid
returns-clause-laid c =
    laid_by (stopped (no_size (length c.args.cells.now) (length c.args.list.now)) c.args.fault) [] c.new-sheet.result c.finish.result.boxes.now (Some c.args.fault) all_ended c.new-sheet.ensures.account c.finish.ensures.list
