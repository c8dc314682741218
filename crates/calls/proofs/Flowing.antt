-- A measured text flows with the advances of its words. Assumes nothing.
use Rattle.std.proofs.Common.{◌≡◌, ℕ, List, [], map, None, Ok, Option, sym, ap, ◌∙◌, subst, subst₂}
use Rattle.rules.specs.Runs.{flows}
use Rattle.text.specs.declared.faults.TextFault.{TextFault}
use Rattle.text.specs.declared.texts.Text.{Text}
use Rattle.text.specs.declared.records.Word.{Word}
use Rattle.text.specs.Fault.{text_fault}
use Rattle.text.specs.Measure.{measured, space_byte}
use Rattle.text.specs.Text.{words_in, accepted, unless}
use Rattle.sheet.specs.declared.answers.Flowed.{Flowed}
use Rattle.sheet.specs.declared.sheet.Sheet.{Sheet}
use Rattle.sheet.specs.Stores.{advances_in, flow_answer}
use Rattle.sheet.specs.Sheets.{Tells}
use Rattle.calls.specs.declared.replies.Reply.TheVariants as R
use Rattle.calls.specs.Scales.{advances_of}
use Rattle.calls.specs.Turns.{Flows}

pub flow_told : (adv : ℕ → ℕ) (text : List ℕ) (words cells from : ℕ) (t : Text) (f : Flowed) (s u : Sheet)
    → text_fault text words cells ≡ None → words_in t ≡ accepted adv text words cells → t.space ≡ adv space_byte
    → Tells (flows (advances_in t) t.space from) (flow_answer f) s u
    → Flows (text_fault text words cells) (advances_of adv text) (adv space_byte) from (Ok (R.Flowed f)) s u
flow_told adv text words cells from t f s u none which space told =
    let all : words_in t ≡ measured adv text = which ∙ ap (λ (o : Option TextFault). unless o [] (measured adv text)) none in
    let are : advances_in t ≡ advances_of adv text = ap (λ (ws : List Word). map (λ w. w.advance) ws) all in
    subst (λ (o : Option TextFault). Flows o (advances_of adv text) (adv space_byte) from (Ok (R.Flowed f)) s u) (sym none)
    (subst₂ (λ (ws : List ℕ) (sp : ℕ). Tells (flows ws sp from) (flow_answer f) s u) are space told)
