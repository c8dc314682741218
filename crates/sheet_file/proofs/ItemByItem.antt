-- One item after another. Assumes nothing.
use Rattle.std.proofs.Common.{◌≡◌, ℕ, suc, ◌+◌, List, [], ◌∷◌, Some, None, Ok, Err, Result, sym, refl, subst, subst₂, arith}
use Rattle.fault_lines.specs.Locations.{at_line, on_line}
use Rattle.lexer.specs.Lines.{FileLine}
use Rattle.rules.specs.Runs.{Call, event}
use Rattle.sheet.specs.declared.sheet.Sheet.{Sheet}
use Rattle.sheet.specs.View.{View, Kept}
use Rattle.items.specs.declared.faults.FileFault.{FileFault}
use Rattle.items.specs.declared.faults.FileFault.TheVariants.{Extent}
use Rattle.items.specs.Asked.{Asked}
use Rattle.sheet_file.specs.declared.cursors.Cursor.{Cursor}
use Rattle.sheet_file.specs.Cursors.{ahead, number}
use Rattle.sheet_file.specs.Plans.{Setting, Items, no_items, with_item, item_of, items_plan}
use Rattle.sheet_file.specs.Done.{all_done, one_done, one_refused, Done, Goes}
use Rattle.sheet_file.specs.Turns.{Leading, Turned}

call_goes : (x : Result Call FileFault) (n : ℕ) (rest : ℕ → Items) (u : Unit {0}) (s t : Sheet) → Asked x (Ok u) s t → Goes (λ es ms. (k : ℕ) → Leading Done (with_item n x (rest k)) (rest k) es ms) s t
call_goes (Ok c) n rest u s t h z past p = (event c h.0 ∷ past, (h.1 z past p).0, λ k fs o d. one_done (event c h.0) refl (sym h.2) d)
call_goes (Err f) n rest u s t h y past p = let e = h.0 in let z : ◌≡◌ {A = ℕ} 0 1 = cc in absurd (omega arith)

call_stops : (x : Result Call FileFault) (n : ℕ) (rest : ℕ → Items) (f : FileFault) (s t : Sheet) → Asked x (Err f) s t → Goes (λ es fs. (k : ℕ) → Done (with_item n x (rest k)) es fs (Some (at_line n f))) s t
call_stops (Ok c) n rest f s t h z past p = (event c h.0 ∷ past, (h.1 z past p).0, λ k. one_refused (event c h.0) refl (sym h.2))
call_stops (Err g) n rest f s t h z past p =
    let e = h.0 in
    let is : g ≡ f = cc in
    (past, subst (λ (v : View). Kept z past v) (sym h.1) p, λ k. subst (λ (y : FileFault). Done (no_items (Some (at_line n g))) past past (Some (at_line n y))) is all_done)

module _ (S : Setting) (c d : Cursor) (s t : Sheet) where
  item_goes : (l : FileLine) (u : Unit {0}) → ahead c ≡ l ∷ ahead d → number d ≡ number c + 1 → Asked (item_of S l) (Ok u) s t → Turned Done (items_plan S) c (Ok u) d s t
  unfolding items_plan
  item_goes l u is on h =
      subst₂ (λ (ls : List FileLine) (n : ℕ). Goes (λ es ms. (k : ℕ) → Leading Done (items_plan S (suc k) (number c) ls) (items_plan S k n (ahead d)) es ms) s t) (sym is) (sym on)
      (call_goes (item_of S l) (number c) (λ k. items_plan S k (number c + 1) (ahead d)) u s t h)

  item_stops : (l : FileLine) (f : FileFault) → ahead c ≡ l ∷ ahead d → Asked (item_of S l) (Err f) s t → Turned Done (items_plan S) c (Err (at_line (number c) f)) d s t
  unfolding items_plan
  item_stops l f is h =
      subst (λ (ls : List FileLine). Goes (λ es fs. (k : ℕ) → Done (items_plan S (suc k) (number c) ls) es fs (Some (at_line (number c) f))) s t) (sym is)
      (call_stops (item_of S l) (number c) (λ k. items_plan S k (number c + 1) (ahead d)) f s t h)

  -- what came of it, on its line
  pub item_set : (l : FileLine) (r : Result (Unit {0}) FileFault) → ahead c ≡ l ∷ ahead d → number d ≡ number c + 1 → Asked (item_of S l) r s t → Turned Done (items_plan S) c (on_line d.read r) d s t
  item_set l (Ok u) is on h = item_goes l u is on h
  item_set l (Err f) is on h =
      let here : number c ≡ d.read = omega (arith, on) in
      subst (λ (n : ℕ). Turned Done (items_plan S) c (Err (at_line n f)) d s t) here (item_stops l f is h)

  pub item_absent : ahead c ≡ [] → Turned Done (items_plan S) c (Err (at_line (number c) Extent)) d s s
  unfolding items_plan
  item_absent is = subst (λ (ls : List FileLine). Goes (λ es fs. (k : ℕ) → Done (items_plan S (suc k) (number c) ls) es fs (Some (at_line (number c) Extent))) s s) (sym is) (λ z past p. (past, p, λ k. all_done))

pub items_set : (S : Setting) (n : ℕ) (ls : List FileLine) (s : Sheet) → Goes (λ es fs. Done (items_plan S 0 n ls) es fs None) s s
unfolding items_plan
items_set S n ls s z past p = (past, p, all_done)
