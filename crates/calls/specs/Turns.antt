-- What the answer to a line says of the sheet. Assumes nothing.
--     Answered               a reply, or a refusal
--     Shows c r s t           the call c led from s to t, and r shows its answer
--     Uncalled a r s t        no call was made: r is a, and s is as it was
--     Opens m c r o s t       a paragraph was asked for, and o is the slip in hand after it
--     Places d c f r s t      a panel of the form f was asked for, if the numbers made one, on side d, clearing c
--     Flows e ws sp n r s t   words of the advances ws were to be set from word n on, unless measuring was refused with e
--     Ends o r s t            the paragraph of the slip o was to be ended
use Rattle.std.specs.Prelude.{◌≡◌, ℕ, List, Some, None, Ok, Err, Option, Result}
use Rattle.shapes.specs.declared.sides.Side.{Side}
use Rattle.shapes.specs.declared.sides.Clear.{Clear}
use Rattle.shapes.specs.Form.{Form}
use Rattle.places.specs.declared.parts.Span.{Span}
use Rattle.rows.specs.Asked.{wanted}
use Rattle.rules.specs.declared.refusals.Refusal.TheVariants.{NoShape, NoParagraph}
use Rattle.rules.specs.Runs.{Call, opens, flows, panels, ends, opened, stands, ended, refused}
use Rattle.text.specs.declared.faults.TextFault.{TextFault}
use Rattle.sheet.specs.declared.sheet.Sheet.{Sheet}
use Rattle.sheet.specs.declared.slips.Slip.{Slip}
use Rattle.sheet.specs.Stores.{flow_answer}
use Rattle.sheet.specs.Sheets.{fields, Tells}
use Rattle.calls.specs.declared.replies.Denied.{Denied}
use Rattle.calls.specs.declared.replies.Denied.TheVariants as D
use Rattle.calls.specs.declared.replies.Reply.{Reply}
use Rattle.calls.specs.declared.replies.Reply.TheVariants as R

-- a reply, or a refusal
abbrev pub Answered : Type 0
Answered = Result Reply Denied

-- the account of the sheet goes on by this call and the answer that is shown; any other answer would be wrong
abbrev pub Shows : Call → Answered → Sheet → Sheet → Type 0
Shows c (Ok (R.Panel p)) s t = Tells c (stands p.x p.y) s t
Shows c (Ok (R.Flowed f)) s t = Tells c (flow_answer f) s t
Shows c (Ok R.Ended) s t = Tells c ended s t
Shows c (Ok (R.Opened n)) s t = ⊥
Shows c (Ok R.Sheet) s t = ⊥
Shows c (Ok R.Metric) s t = ⊥
Shows c (Ok (R.Totals n)) s t = ⊥
Shows c (Ok R.Skipped) s t = ⊥
Shows c (Err (D.Call e)) s t = Tells c (refused e) s t
Shows c (Err (D.Text f)) s t = ⊥

-- no call was made: the answer is this, and the sheet is as it was
abbrev pub Uncalled : Answered → Answered → Sheet → Sheet → Type 0
Uncalled a r s t = (r ≡ a) × (fields t ≡ fields s)

abbrev pub Opens : Span → Clear → Answered → Option Slip → Sheet → Sheet → Type 0
Opens m c (Ok (R.Opened n)) (Some o) s t = Tells (opens m c) (opened o.number) s t
Opens m c (Ok (R.Opened n)) None s t = ⊥
Opens m c (Ok (R.Panel p)) o s t = ⊥
Opens m c (Ok (R.Flowed f)) o s t = ⊥
Opens m c (Ok R.Ended) o s t = ⊥
Opens m c (Ok R.Sheet) o s t = ⊥
Opens m c (Ok R.Metric) o s t = ⊥
Opens m c (Ok (R.Totals n)) o s t = ⊥
Opens m c (Ok R.Skipped) o s t = ⊥
Opens m c (Err (D.Call e)) o s t = Tells (opens m c) (refused e) s t
Opens m c (Err (D.Text f)) o s t = ⊥

abbrev pub Places : Side → Clear → Option Form → Answered → Sheet → Sheet → Type 0
Places d c None r s t = Uncalled (Err (D.Call NoShape)) r s t
Places d c (Some f) r s t = Shows (panels (wanted d c f)) r s t

abbrev pub Flows : Option TextFault → List ℕ → ℕ → ℕ → Answered → Sheet → Sheet → Type 0
Flows (Some e) ws sp n r s t = Uncalled (Err (D.Text e)) r s t
Flows None ws sp n r s t = Shows (flows ws sp n) r s t

abbrev pub Ends : Option Slip → Answered → Sheet → Sheet → Type 0
Ends None r s t = Uncalled (Err (D.Call NoParagraph)) r s t
Ends (Some o) r s t = (r ≡ Ok R.Ended) × Tells (ends o.number) ended s t
