use Rattle.std.proofs.lemmas.Result.{err_from_is_err_and}
use Rattle.sheet_file.specs.Setters.{setting_of}
use Rattle.sheet_file.proofs.ParaByPara.{para_filled, para_unread}
use Rattle.sheet_file.proofs.setters.Setter.next_paragraph.Goals as goal

pub returns-in_err-head-clause-told : goal.returns-in_err-head-clause-told
returns-in_err-head-clause-told c =
    let s = c.args.self.now in
    let p = err_from_is_err_and c.from_residual.result c.from_residual.ensures.1 in
    rw (p.1, p.2) (para_unread (setting_of s) s.cursor c.next_heading.new.cursor s.sheet.now c.in_err-head.field-0.0 c.in_err-head.ensures)

pub returns-clause-told : goal.returns-clause-told
returns-clause-told c =
    let s = c.args.self.now in
    let t = c.fill.new.self in
    let h = c.in_ok-head.ensures in
    para_filled (setting_of s) s.cursor c.next_heading.new.cursor t.cursor c.in_ok-head.head s.sheet.now t.sheet.now h.0 h.1 c.fill.result c.fill.ensures.forward c.fill.ensures.told
