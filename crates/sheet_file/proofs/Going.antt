-- One line after another, up to the first fault. Assumes nothing.
use Rattle.std.proofs.Common.{◌≡◌, ℕ, suc, ◌+◌, ◌-◌, ◌<◌, ◌≤◌, List, [], ◌∷◌, drop, Some, Ok, Err, Option, Result, sym, ap, ◌∙◌, subst, arith, drop-drop}
use Rattle.fault_lines.specs.Locations.{at_line}
use Rattle.lexer.specs.Lines.{FileLine}
use Rattle.sheet.specs.declared.sheet.Sheet.{Sheet}
use Rattle.sheet_file.specs.declared.cursors.Cursor.{Cursor}
use Rattle.sheet_file.specs.Cursors.{ahead, number}
use Rattle.items.specs.declared.faults.FileFault.{FileFault}
use Rattle.items.specs.Faults.{Located}
use Rattle.items.specs.Onward.{onward}
use Rattle.sheet_file.specs.Done.{Goes}
use Rattle.sheet_file.specs.Plans.{first_line}
use Rattle.sheet_file.specs.Turns.{Doing, Leading, Turned, Forward}

-- One part of a plan after the other

module _ {X : Type 0} (D : Doing X) where
  pub leads_then : (I J K : X) (s t u : Sheet) → Goes (Leading D I J) s t → Goes (Leading D J K) t u → Goes (Leading D I K) s u
  leads_then I J K s t u f g z past p =
      let x = f z past p in
      let y = g z x.0 x.1 in
      (y.0, y.1, λ fs o d. x.2 fs o (y.2 fs o d))

  pub leads_to : (I J : X) (o : Option Located) (s t u : Sheet) → Goes (Leading D I J) s t → Goes (λ es fs. D J es fs o) t u → Goes (λ es fs. D I es fs o) s u
  leads_to I J o s t u f g z past p =
      let x = f z past p in
      let y = g z x.0 x.1 in
      (y.0, y.1, x.2 y.0 o y.2)

-- A loop over the parts of a plan: after i of them, those from there on are left

module _ {X : Type 0} (D : Doing X) (plan : ℕ → ℕ → List FileLine → X) where
  -- the plan of the k parts that are ahead of a cursor
  abbrev plan_at : ℕ → Cursor → X
  plan_at k c = plan k (number c) (ahead c)

  module _ (I : X) (count i : ℕ) (c d : Cursor) (s t u : Sheet) (before : Goes (Leading D I (plan (count - i) (number c) (ahead c))) s t) where
    here : i < count → Goes (Leading D I (plan (suc (count - (i + 1))) (number c) (ahead c))) s t
    here lt = subst (λ (k : ℕ). Goes (Leading D I (plan_at k c)) s t) (omega arith) before

    pub turns_more : (v : Unit {0}) → i < count → Turned D plan c (Ok v) d t u → Goes (Leading D I (plan (count - (i + 1)) (number d) (ahead d))) s u
    turns_more v lt h =
        let k = count - (i + 1) in
        leads_then D I (plan_at (suc k) c) (plan_at k d) s t u (here lt) (λ z past p. let x = h z past p in (x.0, x.1, x.2 k))

    pub turns_stop : (x : Located) → i < count → Turned D plan c (Err x) d t u → Goes (λ es fs. D I es fs (Some x)) s u
    turns_stop x lt h =
        let k = count - (i + 1) in
        leads_to D I (plan_at (suc k) c) (Some x) s t u (here lt) (λ z past p. let y = h z past p in (y.0, y.1, y.2 k))

    pub turns_all : (o : Option Located) → count ≤ i → Goes (λ es fs. D (plan 0 (number c) (ahead c)) es fs o) t u → Goes (λ es fs. D I es fs o) s u
    turns_all o le h =
        let from : Goes (Leading D I (plan_at 0 c)) s t = subst (λ (k : ℕ). Goes (Leading D I (plan_at k c)) s t) (omega arith) before in
        leads_to D I (plan_at 0 c) o s t u from h

pub forward_then : (j k : ℕ) (s t u : Cursor) → Forward j s t → Forward k t u → Forward (j + k) s u
forward_then j k s t u a b = (b.0 ∙ ap (drop k) a.0 ∙ drop-drop k j _, omega (arith, a.1, b.1))

-- a line that was read is the first of those ahead
abbrev rest_in : {A : Type 0} → Result (A × List FileLine) Located → List FileLine
rest_in (Ok p) = p.1
rest_in (Err x) = []

behind_it : {A : Type 0} (n : ℕ) (x : Result A FileFault) (a : A) (ls rest : List FileLine) → onward {B = A × List FileLine} (at_line n) x (λ b. Ok (b, ls)) ≡ Ok (a, rest) → rest ≡ ls
behind_it n (Ok b) a ls rest h = sym (ap rest_in h)
behind_it n (Err e) a ls rest h = let z : ◌≡◌ {A = ℕ} 0 1 = cc in absurd (omega arith)

first_rest : {A : Type 0} (n : ℕ) (f : FileLine → Result A FileFault) (ls : List FileLine) (a : A) (rest : List FileLine) → first_line n f ls ≡ Ok (a, rest) → rest ≡ drop 1 ls
first_rest n f [] a rest h = let z : ◌≡◌ {A = ℕ} 0 1 = cc in absurd (omega arith)
first_rest n f (l ∷ ls) a rest h = behind_it n (f l) a ls rest h

pub forward_one : {A : Type 0} (f : FileLine → Result A FileFault) (s t : Cursor) (a : A) → first_line (number s) f (ahead s) ≡ Ok (a, ahead t) → number t ≡ number s + 1 → Forward 1 s t
forward_one f s t a h on = (first_rest (number s) f (ahead s) a (ahead t) h, on)
