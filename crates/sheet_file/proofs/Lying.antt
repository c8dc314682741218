-- A whole file, from its lines to its boxes. Assumes nothing.
use Rattle.std.proofs.Common.{◌≡◌, ℕ, ◌≤◌, cond, List, [], ◌∷◌, length, Ok, Err, Option, Result, refl, ap, ◌∙◌, subst₂, arith, le-ltb}
use Rattle.lexer.specs.Lines.{FileLine, file_lines}
use Rattle.sheet.specs.declared.sizes.SheetSize.{SheetSize}
use Rattle.sheet.specs.Fresh.{new_size}
use Rattle.items.specs.declared.faults.FileFault.{FileFault}
use Rattle.items.specs.declared.faults.FileFault.TheVariants.{Extent, Long}
use Rattle.items.specs.Faults.{Located}
use Rattle.items.specs.Onward.{onward}
use Rattle.rules.specs.declared.boxes.BoxRecord.{BoxRecord}
use Rattle.rules.specs.Runs.{Event}
use Rattle.rules.proofs.Right.{right}
use Rattle.sheet.specs.declared.sheet.Sheet.{Sheet}
use Rattle.sheet.specs.Sheets.{Past, boxes_in}
use Rattle.sheet_file.specs.Plans.{Plan, longest_file, first_line, sheet_of, body_of, body_plan, no_size, stopped, sheeted, lines_plan, file_plan}
use Rattle.std.specs.Result.{result_err}
use Rattle.fault_lines.specs.Locations.{at_line}
use Rattle.sheet_file.specs.Done.{fault_in, ParasDone, Goes}
use Rattle.sheet_file.specs.Laid.{Laid}

pub laid_by : (P : Plan) (past : List Event) (s : Sheet) (bs : List BoxRecord) (o : Option Located) → ParasDone P.body [] past o → Past P.size past s → bs ≡ boxes_in s → Laid P bs o
laid_by P past s bs o done told is = record {
  past = past;
  done = done;
  account = told.account;
  run = told.run;
  right = right P.size past told.account told.run;
  listed = is ∙ told.held.boxed.list_is;
}

pub laid_from : (P : Plan) (s t : Sheet) (bs : List BoxRecord) (o : Option Located) → Past P.size [] s → Goes (λ es fs. ParasDone P.body es fs o) s t → bs ≡ boxes_in t → Laid P bs o
laid_from P s t bs o fresh goes is = let x = goes P.size [] fresh in laid_by P x.0 t bs o x.2 x.1 is

pub fault_part : (r : Result (Unit {0}) Located) → result_err r ≡ fault_in r
fault_part (Ok u) = refl
fault_part (Err x) = refl

-- What the plan of a file comes to

module _ (file : List ℕ) (cells records runs places : ℕ) where
  short : length file ≤ longest_file → file_plan file cells records runs places ≡ lines_plan (file_lines file) cells records runs places
  short le = ap (λ b. cond b (stopped (no_size cells places) (at_line 0 Long)) (lines_plan (file_lines file) cells records runs places)) (le-ltb longest_file (length file) le)

  -- the first line is line 1
  unsheeted : (x : Result SheetSize FileFault) (ls : List FileLine) (y : Located) → onward {B = SheetSize × List FileLine} (at_line 1) x (λ s. Ok (s, ls)) ≡ Err y → sheeted x ls cells records runs places ≡ stopped (no_size cells places) y
  unsheeted (Ok s) ls y h = let z : ◌≡◌ {A = ℕ} 0 1 = cc in absurd (omega arith)
  unsheeted (Err f) ls y h = let is : at_line 1 f ≡ y = cc in ap (stopped (no_size cells places)) is

  unsheeted_lines : (ls : List FileLine) (y : Located) → first_line 1 (sheet_of cells) ls ≡ Err y → lines_plan ls cells records runs places ≡ stopped (no_size cells places) y
  unsheeted_lines [] y h = let is : at_line 1 Extent ≡ y = cc in ap (stopped (no_size cells places)) is
  unsheeted_lines (l ∷ ls) y h = unsheeted (sheet_of cells l) ls y h

  pub plan_unsheeted : (n : ℕ) (ls : List FileLine) (y : Located) → length file ≤ longest_file → n ≡ 1 → ls ≡ file_lines file → first_line n (sheet_of cells) ls ≡ Err y → file_plan file cells records runs places ≡ stopped (no_size cells places) y
  plan_unsheeted n ls y le one all h =
      short le ∙ unsheeted_lines (file_lines file) y (subst₂ (λ (k : ℕ) (xs : List FileLine). first_line k (sheet_of cells) xs ≡ Err y) one all h)

  abbrev of_size : SheetSize → List FileLine → Plan
  of_size s ls = record { size = new_size s cells places; body = body_plan (body_of s.width records runs ls) }

  abbrev said_plan : Result (SheetSize × List FileLine) Located → Plan
  said_plan (Ok p) = of_size p.0 p.1
  said_plan (Err y) = stopped (no_size cells places) y

  from_size : (x : Result SheetSize FileFault) (ls rest : List FileLine) (s : SheetSize) → onward {B = SheetSize × List FileLine} (at_line 1) x (λ t. Ok (t, ls)) ≡ Ok (s, rest) → sheeted x ls cells records runs places ≡ of_size s rest
  from_size (Ok t) ls rest s h = ap (said_plan) h
  from_size (Err f) ls rest s h = let z : ◌≡◌ {A = ℕ} 0 1 = cc in absurd (omega arith)

  from_lines : (ls rest : List FileLine) (s : SheetSize) → first_line 1 (sheet_of cells) ls ≡ Ok (s, rest) → lines_plan ls cells records runs places ≡ of_size s rest
  from_lines [] rest s h = let z : ◌≡◌ {A = ℕ} 0 1 = cc in absurd (omega arith)
  from_lines (l ∷ ls) rest s h = from_size (sheet_of cells l) ls rest s h

  pub plan_sheeted : (n : ℕ) (ls rest : List FileLine) (s : SheetSize) → length file ≤ longest_file → n ≡ 1 → ls ≡ file_lines file → first_line n (sheet_of cells) ls ≡ Ok (s, rest) → file_plan file cells records runs places ≡ of_size s rest
  plan_sheeted n ls rest s le one all h =
      short le ∙ from_lines (file_lines file) rest s (subst₂ (λ (k : ℕ) (xs : List FileLine). first_line k (sheet_of cells) xs ≡ Ok (s, rest)) one all h)
