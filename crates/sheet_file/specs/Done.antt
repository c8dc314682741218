-- What is done of a plan: its calls one after another, with their answers, up to the first fault. Lists of calls have the
-- newest first. Assumes nothing.
--     fault_in r               the fault in the result r, if there is one
--     Done I es fs o           of the items I, after the calls es: the calls are now fs, and o is the fault, if there is one
--     ParaDone P es fs o       the same of the paragraph P: it is opened, and then ended on each way out
--     ParasDone Ps es fs o     the same of some paragraphs
--     Goes R s t               whatever calls led to the sheet s: some calls that are R to them led to t
use Rattle.std.specs.Prelude.{◌≡◌, ℕ, List, [], ◌∷◌, Some, None, Ok, Err, Option, Result}
use Rattle.fault_lines.specs.Locations.{at_line}
use Rattle.rules.specs.declared.refusals.Refusal.{Refusal}
use Rattle.rules.specs.Account.{Size}
use Rattle.rules.specs.Runs.{Event, event, opens, ends, opened, ended, refused}
use Rattle.sheet.specs.declared.sheet.Sheet.{Sheet}
use Rattle.sheet.specs.Sheets.{Past}
use Rattle.items.specs.declared.faults.FileFault.{FileFault}
use Rattle.items.specs.declared.faults.FileFault.TheVariants.{Refused}
use Rattle.items.specs.Faults.{Located, setback}
use Rattle.items.specs.Asked.{judged}
use Rattle.sheet_file.specs.Plans.{Planned, Items, Para, Paras}

abbrev pub fault_in : Result (Unit {0}) Located → Option Located
fault_in (Ok u) = None
fault_in (Err x) = Some x

-- these calls, and then the fault `stop`, if there is one
pub data Calls (stop : Option Located) : List Planned → List Event → List Event → Option Located → Type 0 where
  all_done : {es : List Event} → Calls stop [] es es stop
  one_done : {p : Planned} {ps : List Planned} {es fs : List Event} {o : Option Located} (e : Event) → e.call ≡ p.call → judged e.answer ≡ Ok tt → Calls stop ps (e ∷ es) fs o → Calls stop (p ∷ ps) es fs o
  one_refused : {p : Planned} {ps : List Planned} {es : List Event} {f : FileFault} (e : Event) → e.call ≡ p.call → judged e.answer ≡ Err f → Calls stop (p ∷ ps) es (e ∷ es) (Some (at_line p.line f))

abbrev pub Done : Items → List Event → List Event → Option Located → Type 0
Done I es fs o = Calls I.stop I.calls es fs o

pub data ParaDone (P : Para) (es : List Event) : List Event → Option Located → Type 0 where
  unopened : {e : Refusal} → ParaDone P es (event (opens P.margins P.clear) (refused e) ∷ es) (Some (at_line P.line (Refused (setback e 0))))
  ended_after : {n : ℕ} {fs : List Event} {o : Option Located} → Done P.items (event (opens P.margins P.clear) (opened n) ∷ es) fs o → ParaDone P es (event (ends n) ended ∷ fs) o

pub data Paragraphs (stop : Option Located) : List Para → List Event → List Event → Option Located → Type 0 where
  all_ended : {es : List Event} → Paragraphs stop [] es es stop
  one_ended : {P : Para} {Ps : List Para} {es fs gs : List Event} {o : Option Located} → ParaDone P es fs None → Paragraphs stop Ps fs gs o → Paragraphs stop (P ∷ Ps) es gs o
  one_faulty : {P : Para} {Ps : List Para} {es fs : List Event} {x : Located} → ParaDone P es fs (Some x) → Paragraphs stop (P ∷ Ps) es fs (Some x)

abbrev pub ParasDone : Paras → List Event → List Event → Option Located → Type 0
ParasDone Ps es fs o = Paragraphs Ps.stop Ps.paras es fs o

abbrev pub Goes : (List Event → List Event → Type 0) → Sheet → Sheet → Type 0
Goes R s t = (z : Size) (past : List Event) → Past z past s → (more : List Event) × Past z more t × R past more
