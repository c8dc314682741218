-- A call that a line asks for, once it is made. Assumes nothing.
use Rattle.std.proofs.Common.{◌≡◌, ℕ, List, [], map, length, Some, None, Ok, Err, Option, Result, sym, ap, ◌∙◌, subst, subst₂}
use Rattle.shapes.specs.declared.sides.Side.{Side}
use Rattle.shapes.specs.declared.sides.Clear.{Clear}
use Rattle.shapes.specs.Form.{Form}
use Rattle.rows.specs.Asked.{wanted}
use Rattle.rules.specs.Runs.{Answer, flows, panels}
use Rattle.text.specs.declared.faults.TextFault.{TextFault}
use Rattle.text.specs.declared.texts.Text.{Text}
use Rattle.text.specs.declared.records.Word.{Word}
use Rattle.text.specs.Fault.{text_fault}
use Rattle.text.specs.Measure.{measured, space_byte}
use Rattle.text.specs.Text.{words_in, accepted, unless as otherwise}
use Rattle.sheet.specs.declared.sheet.Sheet.{Sheet}
use Rattle.sheet.specs.Stores.{advances_in}
use Rattle.sheet.specs.Sheets.{fields, Tells}
use Rattle.items.specs.declared.faults.FileFault.{FileFault}
use Rattle.items.specs.Calls.{advances_of, unless, text_call, panel_call}
use Rattle.items.specs.Asked.{judged, Asked}
use Rattle.items.specs.Items.{call_of, item_call}
use Rattle.items.specs.Onward.{onward}
use Rattle.items.specs.declared.faults.FileFault.TheVariants.{Form as BadForm}
use Rattle.lexer.specs.declared.faults.Fault.{Fault}
use Rattle.lexer.specs.Lines.{FileLine}
use Rattle.lines.specs.declared.items.Item.{Item}
use Rattle.lines.specs.Items.{ItemForm, item_form, item_of}

pub asked_panel : (d : Side) (c : Clear) (o : Option Form) (f : Form) (a : Answer) (r : Result (Unit {0}) FileFault) (s t : Sheet)
    → o ≡ Some f → Tells (panels (wanted d c f)) a s t → r ≡ judged a → Asked (panel_call d c o) r s t
asked_panel d c o f a r s t is told how = subst (λ (p : Option Form). Asked (panel_call d c p) r s t) (sym is) (a, told, how)

pub asked_text : (adv : ℕ → ℕ) (text : List ℕ) (words runs : ℕ) (t : Text) (a : Answer) (r : Result (Unit {0}) FileFault) (s u : Sheet)
    → text_fault text words runs ≡ None → words_in t ≡ accepted adv text words runs → t.space ≡ adv space_byte
    → Tells (flows (advances_in t) t.space 0) a s u → r ≡ judged a → Asked (text_call adv words runs text) r s u
asked_text adv text words runs t a r s u none which space told how =
    let all : words_in t ≡ measured adv text = which ∙ ap (λ (o : Option TextFault). otherwise o [] (measured adv text)) none in
    let are : advances_in t ≡ advances_of adv text = ap (λ (ws : List Word). map (λ w. w.advance) ws) all in
    subst (λ (o : Option TextFault). Asked (unless o (flows (advances_of adv text) (adv space_byte) 0)) r s u) (sym none)
    (a, subst₂ (λ (ws : List ℕ) (sp : ℕ). Tells (flows ws sp 0) a s u) are space told, how)

-- the line of an item, once it is read against k shapes, as many as the file names
module _ (adv : ℕ → ℕ) (fs : List Form) (records cells : ℕ) (l : FileLine) (r : Result (Unit {0}) FileFault) (s t : Sheet) (k : ℕ) (all : k ≡ length fs) where
  pub asked_item : (x : Item) (i : ItemForm) → Ok (item_of x) ≡ item_form k l → item_of x ≡ i → Asked (call_of adv fs records cells i) r s t → Asked (item_call adv fs records cells l) r s t
  unfolding item_call
  asked_item x i read is a =
      let said : item_form (length fs) l ≡ Ok i = ap (λ (n : ℕ). item_form n l) (sym all) ∙ sym read ∙ ap Ok is in
      subst (λ (y : Result ItemForm Fault). Asked (onward BadForm y (call_of adv fs records cells)) r s t) (sym said) a

  pub asked_nothing : (e : Fault) → Err e ≡ item_form k l → r ≡ Err (BadForm e) → t ≡ s → Asked (item_call adv fs records cells l) r s t
  unfolding item_call
  asked_nothing e read told same =
      let said : item_form (length fs) l ≡ Err e = ap (λ (n : ℕ). item_form n l) (sym all) ∙ sym read in
      subst (λ (y : Result ItemForm Fault). Asked (onward BadForm y (call_of adv fs records cells)) r s t) (sym said) (told, ap fields same)
