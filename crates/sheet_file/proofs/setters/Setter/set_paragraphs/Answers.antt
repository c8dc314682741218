use Rattle.std.proofs.Common.{Ok, Err}
use Rattle.std.proofs.lemmas.Result.{err_from_is_err_and}
use Rattle.sheet_file.specs.Cursors.{ahead, number}
use Rattle.sheet_file.specs.Done.{fault_in, ParasDone}
use Rattle.sheet_file.specs.Plans.{paras_plan}
use Rattle.sheet_file.specs.Setters.{setting_of}
use Rattle.sheet_file.specs.Turns.{Turned}
use Rattle.sheet_file.proofs.Going.{turns_more, turns_stop, turns_all}
use Rattle.sheet_file.proofs.ParaByPara.{paras_set}
use Rattle.sheet_file.proofs.Setting.{holds_then, setting_is}
use Rattle.sheet_file.proofs.setters.Setter.set_paragraphs.Goals as goal

pub returns-in_err-next_paragraph-clause-holds : goal.returns-in_err-next_paragraph-clause-holds
returns-in_err-next_paragraph-clause-holds c = holds_then c.args.self.now c.loop.self c.next_paragraph.new.self c.loop.invariant.0 c.next_paragraph.ensures.holds

pub returns-in_err-next_paragraph-clause-told : goal.returns-in_err-next_paragraph-clause-told
returns-in_err-next_paragraph-clause-told c =
    let s = c.args.self.now in
    let t = c.loop.self in
    let u = c.next_paragraph.new.self in
    let x = c.in_err-next_paragraph.field-0.0 in
    let p = err_from_is_err_and c.from_residual.result c.from_residual.ensures.1 in
    let plan = paras_plan (setting_of s) in
    let told : Turned ParasDone plan t.cursor (Err x) u.cursor t.sheet.now u.sheet.now = rw (setting_is s t c.loop.invariant.0) at c.in_err-next_paragraph.ensures.told in
    rw (p.1, p.2) (turns_stop ParasDone plan (plan c.args.count (number s.cursor) (ahead s.cursor)) c.args.count c.loop.counter t.cursor u.cursor s.sheet.now t.sheet.now u.sheet.now c.loop.invariant.1 x c.loop-test.true told)

pub loop-preserved : goal.loop-preserved
loop-preserved c =
    let s = c.args.self.now in
    let t = c.loop.self in
    let u = c.next_paragraph.new.self in
    let plan = paras_plan (setting_of s) in
    let told : Turned ParasDone plan t.cursor (Ok tt) u.cursor t.sheet.now u.sheet.now = rw (setting_is s t c.loop.invariant.0) at c.in_ok-next_paragraph.ensures.told in (
      holds_then s t u c.loop.invariant.0 c.next_paragraph.ensures.holds,
      turns_more ParasDone plan (plan c.args.count (number s.cursor) (ahead s.cursor)) c.args.count c.loop.counter t.cursor u.cursor s.sheet.now t.sheet.now u.sheet.now c.loop.invariant.1 tt c.loop-test.true told,
    )

pub returns-clause-told : goal.returns-clause-told
returns-clause-told c =
    let s = c.args.self.now in
    let t = c.loop.self in
    let plan = paras_plan (setting_of s) in
    turns_all ParasDone plan (plan c.args.count (number s.cursor) (ahead s.cursor)) c.args.count c.loop.counter t.cursor t.cursor s.sheet.now t.sheet.now t.sheet.now c.loop.invariant.1 (fault_in c.end.result) c.loop-test.false
    (paras_set (setting_of s) (number t.cursor) (ahead t.cursor) t.sheet.now (fault_in c.end.result) c.end.ensures)
