-- What the report of a file says of each of its lines. Assumes nothing.
use Rattle.std.proofs.Common.{◌≡◌, ℕ, zero, suc, ◌+◌, ◌-◌, true, ◌⊎◌, List, [], ◌∷◌, length, get_or, is_ok, Ok, Err, Result, sym, refl, ap, ◌∙◌, subst, inl, inr, ⊎_elim, arith}
use Rattle.lexer.specs.Lines.{FileLine, file_lines}
use Rattle.std.proofs.lemmas.Bool.{cases_lt, false≢true}
use Rattle.text_report.specs.Law.{no_line, no_measure, AllMeasured, FirstFault, Reports, empty, unfit, faulty, whole, ReportsStand}
use Rattle.text_report.specs.Headings.{advances_of}
use Rattle.text_report.specs.Measures.{text_measure}
use Rattle.text_report.specs.Onward.{onward}
use Rattle.fault_lines.specs.Locations.{at_line, on_line}
use Rattle.text_report.specs.Reading.{before, text_measures, file_measures}
use Rattle.text_report.specs.Report.{told}
use Rattle.text_report.specs.declared.faults.FileFault.{FileFault}
use Rattle.text_report.specs.Faults.{Located}
use Rattle.text_report.specs.declared.texts.Measured.{Measured}

-- an outcome, taken apart
both_told : (n : ℕ) (r : Result Measured FileFault) (rest : Result (List Measured) Located) (ms : List Measured) → before (on_line n r) rest ≡ Ok ms
    → (m : Measured) × (more : List Measured) × (r ≡ Ok m) × (rest ≡ Ok more) × (m ∷ more ≡ ms)
both_told n (Ok m) (Ok more) ms e = (m, more, refl, refl, cc)
both_told n (Ok m) (Err x) ms e = let z : ◌≡◌ {A = ℕ} 0 1 = cc in absurd (omega arith)
both_told n (Err f) rest ms e = let z : ◌≡◌ {A = ℕ} 0 1 = cc in absurd (omega arith)

ok_value : (r : Result Measured FileFault) → is_ok r ≡ true → (m : Measured) × (r ≡ Ok m)
ok_value (Ok m) e = (m, refl)
ok_value (Err f) e = absurd (false≢true e)

abbrev Here : ℕ → Result Measured FileFault → Located → Type 0
Here n r x = (x.line ≡ n) × (r ≡ Err x.fault)

one_told : (n : ℕ) (r : Result Measured FileFault) (rest : Result (List Measured) Located) (x : Located) → before (on_line n r) rest ≡ Err x
    → Here n r x ⊎ ((is_ok r ≡ true) × (rest ≡ Err x))
one_told n (Ok m) (Ok more) x e = let z : ◌≡◌ {A = ℕ} 0 1 = cc in absurd (omega arith)
one_told n (Ok m) (Err y) x e = inr (refl, e)
one_told n (Err f) rest x e =
    let line : x.line ≡ n = cc in
    let fault : f ≡ x.fault = cc in
    inl (line, ap Err fault)

module _ (adv : ℕ → ℕ) where
  first_line : (n : ℕ) (l : FileLine) → text_measure adv n l ≡ text_measure adv (n + 0) l
  first_line n l = let same : n ≡ n + 0 = omega arith in ap (λ i. text_measure adv i l) same

  next_line : (n k : ℕ) (l : FileLine) → text_measure adv (n + 1 + k) l ≡ text_measure adv (n + suc k) l
  next_line n k l = let same : n + 1 + k ≡ n + suc k = omega arith in ap (λ i. text_measure adv i l) same

  -- a fact of each line after the first, and of the first
  from_next : (P : Result Measured FileFault → ℕ → Type 0) (n : ℕ) (l : FileLine) (ls : List FileLine) (k : ℕ)
      → P (text_measure adv n l) 0
      → ((i : ℕ) → k ≡ suc i → P (text_measure adv (n + 1 + i) (get_or ls i no_line)) (suc i))
      → P (text_measure adv (n + k) (get_or (l ∷ ls) k no_line)) k
  from_next P n l ls zero here there = subst (λ r. P r 0) (first_line n l) here
  from_next P n l ls (suc k) here there = subst (λ r. P r (suc k)) (next_line n k (get_or ls k no_line)) (there k refl)

  all : (n : ℕ) (ls : List FileLine) (ms : List Measured) → text_measures adv n ls ≡ Ok ms → AllMeasured adv n ls ms
  all n [] ms e =
      let none : [] ≡ ms = cc in
      record { many = sym (ap length none); each = λ k h. absurd (omega arith) }
  all n (l ∷ ls) ms e =
      let parts = both_told n (text_measure adv n l) (text_measures adv (n + 1) ls) ms e in
      let rest = all (n + 1) ls parts.1 parts.3 in
      let many = rest.many in
      subst (AllMeasured adv n (l ∷ ls)) parts.4
      (record {
        many = omega arith;
        each = λ k h. from_next (λ r i. r ≡ Ok (get_or (parts.0 ∷ parts.1) i no_measure)) n l ls k parts.2 (λ i e. rest.each i (omega arith));
      })

  first : (n : ℕ) (ls : List FileLine) (x : Located) → text_measures adv n ls ≡ Err x → FirstFault adv n ls x
  first n [] x e = let z : ◌≡◌ {A = ℕ} 0 1 = cc in absurd (omega arith)
  first n (l ∷ ls) x e =
      ⊎_elim
      (λ here.
      let line = here.0 in
      let none : 0 ≡ x.line - n = omega arith in
      record {
        from = omega arith;
        within = omega arith;
        refused =
            ap (λ i. text_measure adv i (get_or (l ∷ ls) (x.line - n) no_line)) line
            ∙ ap (λ i. text_measure adv n (get_or (l ∷ ls) i no_line)) (sym none)
            ∙ here.1;
        before = λ k h. absurd (omega arith);
      })
      (λ later.
      let rest = first (n + 1) ls x later.1 in
      let from = rest.from in
      let within = rest.within in
      let next : x.line - n ≡ suc (x.line - (n + 1)) = omega arith in
      record {
        from = omega arith;
        within = omega arith;
        refused = ap (λ i. text_measure adv x.line (get_or (l ∷ ls) i no_line)) next ∙ rest.refused;
        before = λ k h. from_next (λ r i. is_ok r ≡ true) n l ls k later.0 (λ i e. rest.before i (omega arith));
      })
      (one_told n (text_measure adv n l) (text_measures adv (n + 1) ls) x e)

  -- and back: what is so of each line is what is told
  all_back : (n : ℕ) (ls : List FileLine) (ms : List Measured) → AllMeasured adv n ls ms → text_measures adv n ls ≡ Ok ms
  all_back n [] [] h = refl
  all_back n [] (m ∷ ms) h = let many = h.many in absurd (omega arith)
  all_back n (l ∷ ls) [] h = let many = h.many in absurd (omega arith)
  all_back n (l ∷ ls) (m ∷ ms) h =
      let many = h.many in
      let here = first_line n l ∙ h.each 0 (omega arith) in
      let there = all_back (n + 1) ls ms (record { many = omega arith; each = λ k lt. next_line n k (get_or ls k no_line) ∙ h.each (suc k) (omega arith) }) in
      ap (λ r. before (on_line n r) (text_measures adv (n + 1) ls)) here ∙ ap (before (Ok m)) there

  first_back : (n : ℕ) (ls : List FileLine) (x : Located) → FirstFault adv n ls x → text_measures adv n ls ≡ Err x
  first_back n [] x h = let from = h.from in let within = h.within in absurd (omega arith)
  first_back n (l ∷ ls) x h =
      let from = h.from in
      let within = h.within in
      let rest = text_measures adv (n + 1) ls in
      ⊎_elim {C = text_measures adv n (l ∷ ls) ≡ Err x}
      (λ later.
      let next : suc (x.line - (n + 1)) ≡ x.line - n = omega arith in
      let m = ok_value (text_measure adv n l) (ap is_ok (first_line n l) ∙ h.before 0 (omega arith)) in
      let there =
      first_back (n + 1) ls x
      (record {
        from = omega arith;
        within = omega arith;
        refused = ap (λ i. text_measure adv x.line (get_or (l ∷ ls) i no_line)) next ∙ h.refused;
        before = λ k lt. ap is_ok (next_line n k (get_or ls k no_line)) ∙ h.before (suc k) (omega arith);
      }) in
      ap (λ r. before (on_line n r) rest) m.1 ∙ ap (before (Ok m.0)) there)
      (λ early.
      let line : n ≡ x.line = omega arith in
      let none : 0 ≡ x.line - n = omega arith in
      let here =
      ap (λ i. text_measure adv i l) line
      ∙ ap (λ i. text_measure adv x.line (get_or (l ∷ ls) i no_line)) none
      ∙ h.refused in
      ap (λ r. before (on_line n r) rest) here ∙ (λ j. Err (record { line = line j; fault = x.fault })))
      (cases_lt n x.line)

-- the report of what the texts measure to, whichever it is
texts_report : (l : FileLine) (ls : List FileLine) (adv : ℕ → ℕ) (r : Result (List Measured) Located) → advances_of l ≡ Ok adv → text_measures adv 2 ls ≡ r → Reports (l ∷ ls) (told r)
texts_report l ls adv (Ok ms) head e = whole l ls adv ms head (all adv 2 ls ms e)
texts_report l ls adv (Err x) head e = faulty l ls adv x head (first adv 2 ls x e)

lines_report : (l : FileLine) (ls : List FileLine) (r : Result (ℕ → ℕ) FileFault) → advances_of l ≡ r → Reports (l ∷ ls) (told (onward (at_line 1) r (λ adv. text_measures adv 2 ls)))
lines_report l ls (Ok adv) head = texts_report l ls adv (text_measures adv 2 ls) head refl
lines_report l ls (Err f) head = unfit l ls f head

report : (ls : List FileLine) → Reports ls (told (file_measures ls))
report [] = empty
report (l ∷ ls) = lines_report l ls (advances_of l) refl

only : {ls : List FileLine} {out : List ℕ} → Reports ls out → out ≡ told (file_measures ls)
only empty = refl
only (unfit l ls f head) = sym (ap (λ r. told (onward (at_line 1) r (λ adv. text_measures adv 2 ls))) head)
only (faulty l ls adv x head h) =
    sym (ap (λ r. told (onward (at_line 1) r (λ a. text_measures a 2 ls))) head ∙ ap told (first_back adv 2 ls x h))
only (whole l ls adv ms head h) =
    sym (ap (λ r. told (onward (at_line 1) r (λ a. text_measures a 2 ls))) head ∙ ap told (all_back adv 2 ls ms h))

pub reports_stand : ReportsStand
reports_stand = record { stands = λ file. report (file_lines file); only_one = λ file out h. only h }
