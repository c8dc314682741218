use Rattle.std.proofs.Common.{◌≡◌, rules, length, Some, sym, ap, subst}
use Rattle.std.proofs.lemmas.Result.{err_from_is_err_and}
use Rattle.sheet.specs.Sheets.{fields}
use Rattle.sheet_file.specs.Cursors.{ahead}
use Rattle.sheet_file.specs.Done.{fault_in, ParasDone, all_ended, Goes}
use Rattle.sheet_file.specs.Plans.{Paras, no_paras, body_of, body_plan}
use Rattle.sheet_file.proofs.Setting.{goes_back}
use Rattle.sheet_file.proofs.reading.lay_out.Goals as goal

pub returns-in_err-desk-clause-told : goal.returns-in_err-desk-clause-told
returns-in_err-desk-clause-told c =
    let B = body_of c.args.width (length c.args.words.now) (length c.args.runs.now) (ahead c.args.lines) in
    let x = c.in_err-desk.field-0.0 in
    let p = err_from_is_err_and c.from_residual.result c.from_residual.ensures.1 in
    let none : body_plan B ≡ no_paras (Some x) = ap body_plan (c.in_err-desk.ensures (length c.args.words.now) (length c.args.runs.now)) in
    rw (p.1, p.2) (λ z past h. (past, h, subst (λ (P : Paras). ParasDone P past past (Some x)) (sym none) all_ended))

-- the sheet that is handed back is the setter's
pub returns-clause-told : goal.returns-clause-told
returns-clause-told c =
    let P = body_plan (body_of c.args.width (length c.args.words.now) (length c.args.runs.now) (ahead c.args.lines)) in
    let is = ap body_plan (c.in_ok-desk.ensures (length c.args.words.now) (length c.args.runs.now)) in
    let told : Goes (λ es fs. ParasDone P es fs (fault_in c.set_paragraphs.result)) c.args.sheet.now c.set_paragraphs.new.self.sheet.now = rw is c.set_paragraphs.ensures.told in
    goes_back (λ es fs. ParasDone P es fs (fault_in c.set_paragraphs.result)) c.args.sheet.now (fields c.set_paragraphs.new.self.sheet.now) _ told (search rules)
