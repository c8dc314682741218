use Rattle.std.proofs.lemmas.Result.{err_from_is_err_and}
use Rattle.lexer.specs.LinesLeft.{line_of}
use Rattle.sheet_file.specs.Setters.{setting_of}
use Rattle.sheet_file.proofs.ItemByItem.{item_set, item_absent}
use Rattle.sheet_file.proofs.setters.Setter.next_item.Goals as goal

pub returns-in_err-line-clause-told : goal.returns-in_err-line-clause-told
returns-in_err-line-clause-told c =
    let s = c.args.self.now in
    let p = err_from_is_err_and c.from_residual.result c.from_residual.ensures.1 in
    let h = c.in_err-line.ensures in
    rw (p.1, p.2, h.1) (item_absent (setting_of s) s.cursor c.next.new.self s.sheet.now s.sheet.now h.0)

pub returns-clause-told : goal.returns-clause-told
returns-clause-told c =
    let s = c.args.self.now in
    let h = c.in_ok-line.ensures in
    rw c.judge.ensures (item_set (setting_of s) s.cursor c.next.new.self s.sheet.now c.set_item-done.new.sheet (line_of c.in_ok-line.line) c.set_item-done.result h.0 h.1 c.set_item-done.ensures.asked)
