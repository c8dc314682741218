-- One paragraph after another. Assumes nothing.
use Rattle.std.proofs.Common.{◌≡◌, ℕ, suc, ◌+◌, List, ◌∷◌, drop, IfOk, Some, None, Ok, Err, Option, Result, sym, ap, ◌∙◌, subst, subst₂, arith}
use Rattle.std.specs.Result.{MatchResult, IsErrAnd}
use Rattle.std.proofs.lemmas.Result.{err_from_is_err_and}
use Rattle.fault_lines.specs.Locations.{at_line, on_line}
use Rattle.lexer.specs.Lines.{FileLine}
use Rattle.lines.specs.declared.paragraphs.ParaLine.{ParaLine}
use Rattle.places.specs.declared.parts.Span.{Span}
use Rattle.rules.specs.declared.refusals.Refusal.{Refusal}
use Rattle.rules.specs.Runs.{event, opens, ends, opened, ended, refused}
use Rattle.sheet.specs.declared.sheet.Sheet.{Sheet}
use Rattle.sheet.specs.declared.slips.Slip.{Slip}
use Rattle.sheet.specs.Stores.{open_answer}
use Rattle.sheet.specs.Sheets.{Tells}
use Rattle.items.specs.declared.faults.FileFault.{FileFault}
use Rattle.items.specs.declared.faults.FileFault.TheVariants.{Refused}
use Rattle.items.specs.Faults.{Located, setback}
use Rattle.sheet_file.specs.declared.cursors.Cursor.{Cursor}
use Rattle.sheet_file.specs.Cursors.{ahead, number}
use Rattle.sheet_file.specs.Plans.{Setting, Para, Paras, no_paras, with_para, para_of, first_line, heading_of, headed, surplus, paras_plan}
use Rattle.sheet_file.specs.Done.{fault_in, Done, ParaDone, unopened, ended_after, ParasDone, all_ended, one_ended, one_faulty, Goes}
use Rattle.sheet_file.specs.Turns.{Turned, Forward}

module _ (P : Para) (m : Span) (is : m ≡ P.margins) (s t : Sheet) where
  para_refused : (e : Refusal) → Tells (opens m P.clear) (refused e) s t → Goes (λ es fs. ParaDone P es fs (Some (at_line P.line (Refused (setback e 0))))) s t
  para_refused e told z past p =
      let h : Tells (opens P.margins P.clear) (refused e) s t = subst (λ (b : Span). Tells (opens b P.clear) (refused e) s t) is told in
      (event (opens P.margins P.clear) (refused e) ∷ past, (h z past p).0, unopened)

  pub para_ended : (n : ℕ) (o : Option Located) (u v : Sheet) → Tells (opens m P.clear) (opened n) s t → Goes (λ es fs. Done P.items es fs o) t u → Tells (ends n) ended u v → Goes (λ es fs. ParaDone P es fs o) s v
  para_ended n o u v told items end z past p =
      let h : Tells (opens P.margins P.clear) (opened n) s t = subst (λ (b : Span). Tells (opens b P.clear) (opened n) s t) is told in
      let x = items z (event (opens P.margins P.clear) (opened n) ∷ past) (h z past p).0 in
      (event (ends n) ended ∷ x.0, (end z x.0 x.1).0, ended_after x.2)

-- the call that opens it was answered with r, which is q as an answer of the file
module _ (q : Result Slip FileFault) (Q : Refusal → FileFault → Type 0) (tells : (e : Refusal) (f : FileFault) → Q e f → f ≡ Refused (setback e 0)) where
  pub opening_is : (n : ℕ) (r : Result Slip Refusal) (own : Slip) → MatchResult r (λ x. q ≡ Ok x) (λ e. IsErrAnd q (Q e)) → Ok own ≡ on_line n q → r ≡ Ok own
  opening_is n (Ok x) own cases is = let h : ◌≡◌ {A = Result Slip Located} (Ok own) (Ok x) = is ∙ ap (on_line n) cases in cc
  opening_is n (Err e) own cases is =
      let p = err_from_is_err_and q cases in
      let h : ◌≡◌ {A = Result Slip Located} (Ok own) (Err (at_line n p.0)) = is ∙ ap (on_line n) p.1 in
      let z : ◌≡◌ {A = ℕ} 0 1 = cc in absurd (omega arith)

  pub para_unopened : (P : Para) (m : Span) (is : m ≡ P.margins) (s t : Sheet) (r : Result Slip Refusal) (x : Located) → MatchResult r (λ v. q ≡ Ok v) (λ e. IsErrAnd q (Q e)) → Err x ≡ on_line P.line q → Tells (opens m P.clear) (open_answer r) s t → Goes (λ es fs. ParaDone P es fs (Some x)) s t
  para_unopened P m is s t (Ok v) x cases was told =
      let h : ◌≡◌ {A = Result Slip Located} (Err x) (Ok v) = was ∙ ap (on_line P.line) cases in
      let z : ◌≡◌ {A = ℕ} 0 1 = cc in absurd (omega arith)
  para_unopened P m is s t (Err e) x cases was told =
      let p = err_from_is_err_and q cases in
      let h : ◌≡◌ {A = Result Slip Located} (Err x) (Err (at_line P.line p.0)) = was ∙ ap (on_line P.line) p.1 in
      let same : x ≡ at_line P.line p.0 = cc in
      let here : x ≡ at_line P.line (Refused (setback e 0)) = same ∙ ap (at_line P.line) (tells e p.0 p.2) in
      subst (λ (y : Located). Goes (λ es fs. ParaDone P es fs (Some y)) s t) (sym here) (para_refused P m is s t e told)

-- the paragraph that begins with the first line ahead of c; its items are ahead of d, and what comes behind them ahead of e
module _ (S : Setting) (c d e : Cursor) (h : ParaLine) (s t : Sheet) (head : first_line (number c) heading_of (ahead c) ≡ Ok (h, ahead d)) (on : number d ≡ number c + 1) where
  -- the paragraph, by the line that was read last
  abbrev this : Para
  this = para_of S d.read h (ahead d)

  line_is : d.read ≡ number c
  line_is = omega (arith, on)

  plan_is : (k : ℕ) → paras_plan S (suc k) (number c) (ahead c) ≡ with_para this (paras_plan S k (number c + 1 + h.items) (drop h.items (ahead d)))
  unfolding paras_plan
  plan_is k = ap (λ x. headed S (number c) x (paras_plan S k)) head ∙ ap (λ (n : ℕ). with_para (para_of S n h (ahead d)) (paras_plan S k (number c + 1 + h.items) (drop h.items (ahead d)))) (sym line_is)

  para_goes : (v : Unit {0}) → Forward h.items d e → Goes (λ es fs. ParaDone this es fs None) s t → Turned ParasDone (paras_plan S) c (Ok v) e s t
  para_goes v far goes z past p =
      let x = goes z past p in
      let at : number c + 1 + h.items ≡ number e = omega (arith, on, far.1) in (
        x.0,
        x.1,
        λ k fs o done.
            let rest : ParasDone (paras_plan S k (number c + 1 + h.items) (drop h.items (ahead d))) x.0 fs o = subst₂ (λ (n : ℕ) (ls : List FileLine). ParasDone (paras_plan S k n ls) x.0 fs o) (sym at) far.0 done in
            subst (λ (Ps : Paras). ParasDone Ps past fs o) (sym (plan_is k)) (one_ended x.2 rest),
      )

  para_stops : (y : Located) → Goes (λ es fs. ParaDone this es fs (Some y)) s t → Turned ParasDone (paras_plan S) c (Err y) e s t
  para_stops y goes z past p =
      let x = goes z past p in
      (x.0, x.1, λ k. subst (λ (Ps : Paras). ParasDone Ps past x.0 (Some y)) (sym (plan_is k)) (one_faulty x.2))

  pub para_filled : (r : Result (Unit {0}) Located) → IfOk r (λ _. Forward h.items d e) → Goes (λ es fs. ParaDone this es fs (fault_in r)) s t → Turned ParasDone (paras_plan S) c r e s t
  para_filled (Ok v) far goes = para_goes v far goes
  para_filled (Err y) far goes = para_stops y goes

pub para_unread : (S : Setting) (c e : Cursor) (s : Sheet) (y : Located) → first_line (number c) heading_of (ahead c) ≡ Err y → Turned ParasDone (paras_plan S) c (Err y) e s s
unfolding paras_plan
para_unread S c e s y is z past p = (past, p, λ k. subst (λ x. ParasDone (headed S (number c) x (paras_plan S k)) past past (Some y)) (sym is) all_ended)

pub paras_set : (S : Setting) (n : ℕ) (ls : List FileLine) (s : Sheet) (o : Option Located) → o ≡ surplus n ls → Goes (λ es fs. ParasDone (paras_plan S 0 n ls) es fs o) s s
unfolding paras_plan
paras_set S n ls s o is z past p = (past, p, subst (λ (x : Option Located). ParasDone (no_paras (surplus n ls)) past past x) (sym is) all_ended)
