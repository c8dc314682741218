use Rattle.std.proofs.Common.{◌≡◌, None, Ok, Err, ◌∙◌, arith}
use Rattle.std.proofs.lemmas.Result.{err_from_is_err_and}
use Rattle.sheet_file.specs.Cursors.{ahead, number}
use Rattle.sheet_file.specs.Done.{Done}
use Rattle.sheet_file.specs.Plans.{items_plan}
use Rattle.sheet_file.specs.Setters.{setting_of}
use Rattle.sheet_file.specs.Turns.{Turned}
use Rattle.sheet_file.proofs.Going.{turns_more, turns_stop, turns_all, forward_then}
use Rattle.sheet_file.proofs.ItemByItem.{items_set}
use Rattle.sheet_file.proofs.Setting.{holds_then, setting_is}
use Rattle.sheet_file.proofs.setters.Setter.set_items.Goals as goal

pub returns-in_err-next_item-clause-holds : goal.returns-in_err-next_item-clause-holds
returns-in_err-next_item-clause-holds c = holds_then c.args.self.now c.loop.self c.next_item.new.self c.loop.invariant.1 c.next_item.ensures.holds

pub returns-in_err-next_item-clause-told : goal.returns-in_err-next_item-clause-told
returns-in_err-next_item-clause-told c =
    let s = c.args.self.now in
    let t = c.loop.self in
    let u = c.next_item.new.self in
    let x = c.in_err-next_item.field-0.0 in
    let p = err_from_is_err_and c.from_residual.result c.from_residual.ensures.1 in
    let plan = items_plan (setting_of s) in
    let told : Turned Done plan t.cursor (Err x) u.cursor t.sheet.now u.sheet.now = rw (setting_is s t c.loop.invariant.1) at c.in_err-next_item.ensures.told in
    rw (p.1, p.2) (turns_stop Done plan (plan c.args.count (number s.cursor) (ahead s.cursor)) c.args.count c.loop.counter t.cursor u.cursor s.sheet.now t.sheet.now u.sheet.now c.loop.invariant.3 x c.loop-test.true told)

pub loop-preserved : goal.loop-preserved
loop-preserved c =
    let s = c.args.self.now in
    let t = c.loop.self in
    let u = c.next_item.new.self in
    let plan = items_plan (setting_of s) in
    let told : Turned Done plan t.cursor (Ok tt) u.cursor t.sheet.now u.sheet.now = rw (setting_is s t c.loop.invariant.1) at c.in_ok-next_item.ensures.told in (
      c.next_item.ensures.number ∙ c.loop.invariant.0,
      holds_then s t u c.loop.invariant.1 c.next_item.ensures.holds,
      forward_then c.loop.counter 1 s.cursor t.cursor u.cursor c.loop.invariant.2 c.in_ok-next_item.ensures.forward,
      turns_more Done plan (plan c.args.count (number s.cursor) (ahead s.cursor)) c.args.count c.loop.counter t.cursor u.cursor s.sheet.now t.sheet.now u.sheet.now c.loop.invariant.3 tt c.loop-test.true told,
    )

pub returns-clause-told : goal.returns-clause-told
returns-clause-told c =
    let s = c.args.self.now in
    let t = c.loop.self in
    let plan = items_plan (setting_of s) in
    let end : c.loop.counter ≡ c.args.count = omega arith in
    turns_all Done plan (plan c.args.count (number s.cursor) (ahead s.cursor)) c.args.count c.loop.counter t.cursor t.cursor s.sheet.now t.sheet.now t.sheet.now c.loop.invariant.3 None (omega (arith, end)) (items_set (setting_of s) (number t.cursor) (ahead t.cursor) t.sheet.now)
