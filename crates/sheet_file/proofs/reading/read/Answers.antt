use Rattle.std.proofs.Common.{◌≡◌, length, ◌∙◌}
use Rattle.sheet.specs.Fresh.{new_size}
use Rattle.sheet_file.specs.Cursors.{ahead, number}
use Rattle.sheet_file.specs.Done.{fault_in}
use Rattle.sheet_file.specs.Plans.{Plan, body_of, body_plan}
use Rattle.sheet_file.proofs.Lying.{laid_from, fault_part, plan_unsheeted, plan_sheeted}
use Rattle.sheet_file.proofs.reading.read.Goals as goal

pub returns-in-Err-clause-laid : goal.returns-in-Err-clause-laid
returns-in-Err-clause-laid c =
    let from = c.new-cursor.result in
    rw (plan_unsheeted c.args.file.now (length c.args.cells.now) (length c.args.words.now) (length c.args.runs.now) (length c.args.list.now) (number from) (ahead from) c.in-Err.fault c.if-file-gt-LONGEST.false c.new-cursor.ensures.number c.new-cursor.ensures.ahead c.in-Err.ensures) c.nothing-in-Err.ensures.laid

pub returns-clause-laid : goal.returns-clause-laid
returns-clause-laid c =
    let file = c.args.file.now in
    let cells = length c.args.cells.now in
    let records = length c.args.words.now in
    let runs = length c.args.runs.now in
    let places = length c.args.list.now in
    let from = c.new-cursor.result in
    let rest = ahead c.next_size.new.cursor in
    let size = c.in-Ok.size in
    let s = c.new-sheet.result in
    let t = c.lay_out-done.new.sheet in
    let o = fault_in c.lay_out-done.result in
    let P : Plan = record { size = new_size size cells places; body = body_plan (body_of size.width records runs rest) } in
    let fault : c.err.result ≡ o = c.err.ensures.value ∙ fault_part c.lay_out-done.result in
    let is = plan_sheeted file cells records runs places (number from) (ahead from) rest size c.if-file-gt-LONGEST.false c.new-cursor.ensures.number c.new-cursor.ensures.ahead c.in-Ok.ensures.0 in
    rw (is, fault) (laid_from P s t c.finish.result.boxes.now o c.new-sheet.ensures.account c.lay_out-done.ensures.told c.finish.ensures.list)
