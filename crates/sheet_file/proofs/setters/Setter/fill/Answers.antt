use Rattle.std.proofs.Common.{rules, Result, subst}
use Rattle.std.proofs.lemmas.Result.{err_from_is_err_and}
use Rattle.rules.specs.declared.refusals.Refusal.{Refusal}
use Rattle.rules.specs.Runs.{opens}
use Rattle.sheet.specs.declared.slips.Slip.{Slip}
use Rattle.sheet.specs.Stores.{open_answer}
use Rattle.sheet.specs.Sheets.{Tells}
use Rattle.items.specs.Spares.{Spares}
use Rattle.items.proofs.Sparing.{stays_is, spares_then}
use Rattle.sheet_file.specs.Cursors.{ahead}
use Rattle.sheet_file.specs.Done.{fault_in}
use Rattle.sheet_file.specs.Plans.{para_of}
use Rattle.sheet_file.specs.Setters.{setting_of}
use Rattle.sheet_file.proofs.ParaByPara.{opening_is, para_unopened, para_ended}
use Rattle.sheet_file.proofs.setters.Setter.fill.Goals as goal

pub returns-in_err-slip-clause-told : goal.returns-in_err-slip-clause-told
returns-in_err-slip-clause-told c =
    let s = c.args.self.now in
    let P = para_of (setting_of s) s.cursor.read c.args.head (ahead s.cursor) in
    let p = err_from_is_err_and c.from_residual.result c.from_residual.ensures.1 in
    rw (p.1, p.2)
    (para_unopened c.map_err.result _ (λ e f h. search rules) P c.margins.result c.margins.ensures s.sheet.now c.open-opened.new.self c.open-opened.result c.in_err-slip.field-0.0 c.map_err.ensures.cases c.in_err-slip.ensures c.open-opened.ensures.account)

pub returns-clause-holds : goal.returns-clause-holds
returns-clause-holds c =
    let s = c.args.self.now.sheet.now in
    let t = c.open-opened.new.self in
    let u = c.set_items-done.new.self in
    let opening : Spares s t = record { list = c.open-opened.ensures.rest; rows = stays_is s.store.rows t.store.rows c.open-opened.ensures.memory.0 } in
    let h = c.set_items-done.ensures.holds in
    record {
      named = h.named;
      spares = spares_then s u.sheet.now c.spend.new.sheet (spares_then s t u.sheet.now opening h.spares) c.spend.ensures.spares;
      desk = h.desk;
      words = h.words;
      runs = h.runs;
    }

pub returns-clause-told : goal.returns-clause-told
returns-clause-told c =
    let s = c.args.self.now in
    let P = para_of (setting_of s) s.cursor.read c.args.head (ahead s.cursor) in
    let t = c.open-opened.new.self in
    let own = c.in_ok-slip.slip in
    let is = opening_is c.map_err.result _ (λ e f h. search rules) s.cursor.read c.open-opened.result own c.map_err.ensures.cases c.in_ok-slip.ensures in
    let told = subst (λ (r : Result Slip Refusal). Tells (opens c.margins.result P.clear) (open_answer r) s.sheet.now t) is c.open-opened.ensures.account in
    para_ended P c.margins.result c.margins.ensures s.sheet.now t own.number (fault_in c.set_items-done.result) c.set_items-done.new.self.sheet.now c.spend.new.sheet told c.set_items-done.ensures.told c.spend.ensures.told
