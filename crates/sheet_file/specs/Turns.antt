-- What one turn of a loop over lines comes to, in words that go on to the next. Assumes nothing.
--     Leading D I J es ms        whatever is done of the plan J after the calls ms, is done of the plan I after the calls es
--     Turned D plan c r d s t    one of the parts that are ahead of the cursor c was set, on a sheet that was s and is t: whatever
--                                those ahead of d come to, with it they come to that; or r is the fault
--     mapped m r                 r, with its value told by m
--     Took m f s r t             the first line ahead of the cursor s was read by f: r is what came of it, by m, and t is past it
--     Forward k s t              the cursor t is k lines further than s
use Rattle.std.specs.Prelude.{◌≡◌, ℕ, suc, ◌+◌, List, drop, Some, Ok, Err, Option, Result}
use Rattle.lexer.specs.Lines.{FileLine}
use Rattle.rules.specs.Runs.{Event}
use Rattle.sheet.specs.declared.sheet.Sheet.{Sheet}
use Rattle.items.specs.declared.faults.FileFault.{FileFault}
use Rattle.items.specs.Faults.{Located}
use Rattle.sheet_file.specs.declared.cursors.Cursor.{Cursor}
use Rattle.sheet_file.specs.Cursors.{ahead, number}
use Rattle.sheet_file.specs.Plans.{first_line}
use Rattle.sheet_file.specs.Done.{Goes}

-- what is done of a plan of some kind, after some calls
abbrev pub Doing : Type 0 → Type 1
Doing X = X → List Event → List Event → Option Located → Type 0

abbrev pub Leading : {X : Type 0} → Doing X → X → X → List Event → List Event → Type 0
Leading D I J es ms = (fs : List Event) (o : Option Located) → D J ms fs o → D I es fs o

-- plan k n ls is the plan of k parts on the lines ls, the first of which is line n
abbrev pub Turned : {X : Type 0} → Doing X → (ℕ → ℕ → List FileLine → X) → Cursor → Result (Unit {0}) Located → Cursor → Sheet → Sheet → Type 0
Turned D plan c (Ok u) d s t = Goes (λ es ms. (k : ℕ) → Leading D (plan (suc k) (number c) (ahead c)) (plan k (number d) (ahead d)) es ms) s t
Turned D plan c (Err x) d s t = Goes (λ es fs. (k : ℕ) → D (plan (suc k) (number c) (ahead c)) es fs (Some x)) s t

abbrev pub mapped : {A B E : Type 0} → (B → A) → Result B E → Result A E
mapped m (Ok b) = Ok (m b)
mapped m (Err e) = Err e

abbrev pub Took : {A B : Type 0} → (B → A) → (FileLine → Result A FileFault) → Cursor → Result B Located → Cursor → Type 0
Took m f s (Ok b) t = (first_line (number s) f (ahead s) ≡ Ok (m b, ahead t)) × (number t ≡ number s + 1)
Took m f s (Err x) t = first_line (number s) f (ahead s) ≡ Err x

abbrev pub Forward : ℕ → Cursor → Cursor → Type 0
Forward k s t = (ahead t ≡ drop k (ahead s)) × (number t ≡ number s + k)
