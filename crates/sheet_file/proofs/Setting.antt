-- What a setter holds over one turn after another. Assumes nothing.
use Rattle.std.proofs.Common.{◌≡◌, List, refl, ◌∙◌, subst}
use Rattle.rules.specs.Account.{Size}
use Rattle.rules.specs.Runs.{Event}
use Rattle.sheet.specs.declared.sheet.Sheet.{Sheet}
use Rattle.sheet.specs.Sheets.{Past}
use Rattle.sheet.specs.View.{View, Kept}
use Rattle.items.proofs.Sparing.{spares_then}
use Rattle.sheet_file.specs.declared.setters.Setter.{Setter}
use Rattle.sheet_file.specs.Setters.{setting_of, Holds}

pub holds_then : (s t u : Setter) → Holds s t → Holds t u → Holds s u
holds_then s t u a b = record {
  named = b.named ∙ a.named;
  spares = spares_then s.sheet.now t.sheet.now u.sheet.now a.spares b.spares;
  desk = b.desk ∙ a.desk;
  words = b.words ∙ a.words;
  runs = b.runs ∙ a.runs;
}

pub setting_is : (s t : Setter) → Holds s t → setting_of t ≡ setting_of s
setting_is s t a = rw (a.desk, a.words, a.runs) refl

-- a sheet with the fields that calls led to
pub goes_back : (R : List Event → List Event → Type 0) (s : Sheet) (v w : View) → ((z : Size) (past : List Event) → Past z past s → (more : List Event) × Kept z more v × R past more) → v ≡ w
    → (z : Size) (past : List Event) → Past z past s → (more : List Event) × Kept z more w × R past more
goes_back R s v w goes is = subst (λ (x : View). (z : Size) (past : List Event) → Past z past s → (more : List Event) × Kept z more x × R past more) is goes
