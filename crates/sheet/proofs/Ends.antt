-- Ending a paragraph. Assumes nothing.
use Rattle.std.proofs.Common.{◌≡◌, ℕ, ◌+◌, ◌≤◌, length, true, false, eqb, Some, None, sym, refl, ◌∙◌, eq-eqb, ne_eqb}
use Rattle.rules.specs.declared.paragraphs.Paragraph.{Paragraph}
use Rattle.rules.specs.declared.refusals.Refusal.TheVariants.{NoParagraph, WrongSlip}
use Rattle.rules.specs.Account.{reserved}
use Rattle.rules.specs.Runs.{ends, ended, refused, end_refused, end_done}
use Rattle.sheet.specs.View.{View}
use Rattle.sheet.specs.Told.{Told}
use Rattle.sheet.specs.Steps.{Closed}
use Rattle.sheet.proofs.Moves.{move, stay, idle}
use Rattle.sheet.proofs.Panels.{para_of}
use Rattle.sheet.proofs.Lines.{held_shut}

pub end_none : (v : View) (n : ℕ) → v.para ≡ None → Told (ends n) (refused NoParagraph) v v
end_none v n t z past k =
    let p : k.account.para ≡ None = sym k.held.para_is ∙ t in
    stay k (end_refused (simp p))

pub end_other : (v : View) (n : ℕ) (p : Paragraph) → v.para ≡ Some p → (p.number ≡ n → ⊥) → Told (ends n) (refused WrongSlip) v v
end_other v n p t ne z past k =
    let e : k.account.para ≡ Some p = para_of k.held t in
    let q : eqb n p.number ≡ false = ne_eqb n p.number (λ i. ne (sym i)) in
    stay k (end_refused (simp (e, q)))

-- the fields with no paragraph open
abbrev pub ended_view : View → View
ended_view v = record v { para = None }

pub end_own : (v w : View) (n : ℕ) (p : Paragraph) → v.used + reserved v.current ≤ length v.recs → Closed v p.margins w → v.para ≡ Some p → p.number ≡ n → Told (ends n) ended v (ended_view w)
end_own v w n p few c t i z past k =
    let e : k.account.para ≡ Some p = para_of k.held t in
    let q : eqb n p.number ≡ true = eq-eqb n p.number (sym i) in
    let h = held_shut v w p k.held few c in
    move k (end_done p e (simp (e, q))) (idle h h.cursor_is h.count_is refl h.current_is)
