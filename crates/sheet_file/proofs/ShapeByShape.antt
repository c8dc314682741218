-- One staircase after another, and the lines before the paragraphs. Assumes nothing.
use Rattle.std.proofs.Common.{◌≡◌, ℕ, suc, ◌+◌, ◌-◌, ◌<◌, ◌≤◌, cond, List, [], ◌∷◌, ◌++◌, length, Ok, Err, Result, sym, ap, ◌∙◌, arith, lt-ltb}
use Rattle.std.proofs.lemmas.List.{length_push}
use Rattle.lexer.specs.Lines.{FileLine}
use Rattle.shapes.specs.Form.{Form}
use Rattle.items.specs.Faults.{Located}
use Rattle.items.specs.Shelves.{with_form}
use Rattle.sheet_file.specs.Plans.{then, first_line, stairs_of, shapes_plan}

with_room : (f : Form) (fs : List Form) → length fs < 16 → with_form f fs ≡ fs ++ (f ∷ [])
with_room f fs lt = ap (λ b. cond b (fs ++ (f ∷ [])) fs) (lt-ltb (length fs) 16 lt)

-- after i of the staircases, those from there on are left
module _ (all : Result (List Form) Located) (count i n : ℕ) (ls : List FileLine) (fs : List Form) (before : all ≡ shapes_plan (count - i) n ls fs) where
  here : i < count → all ≡ shapes_plan (suc (count - (i + 1))) n ls fs
  here lt = before ∙ ap (λ (k : ℕ). shapes_plan k n ls fs) (omega arith)

  pub shapes_more : (f : Form) (m : ℕ) (ms : List FileLine) (gs : List Form) → i < count → length fs < 16 → first_line n stairs_of ls ≡ Ok (f, ms) → m ≡ n + 1 → gs ≡ with_form f fs → all ≡ shapes_plan (count - (i + 1)) m ms gs
  unfolding shapes_plan
  shapes_more f m ms gs lt few read on kept =
      let k = count - (i + 1) in
      here lt ∙ ap (λ x. then x (λ p. shapes_plan k (n + 1) p.1 (fs ++ (p.0 ∷ [])))) read
      ∙ ap (λ (j : ℕ). shapes_plan k j ms (fs ++ (f ∷ []))) (sym on)
      ∙ ap (shapes_plan k m ms) (sym (kept ∙ with_room f fs few))

  pub shapes_stop : (x : Located) → i < count → first_line n stairs_of ls ≡ Err x → all ≡ Err x
  unfolding shapes_plan
  shapes_stop x lt read = here lt ∙ ap (λ y. then y (λ p. shapes_plan (count - (i + 1)) (n + 1) p.1 (fs ++ (p.0 ∷ [])))) read

  pub shapes_all : count ≤ i → all ≡ Ok fs
  unfolding shapes_plan
  shapes_all le = let none : count - i ≡ 0 = omega arith in before ∙ ap (λ (k : ℕ). shapes_plan k n ls fs) none

pub length_kept : (f : Form) (fs gs : List Form) (i : ℕ) → length fs ≡ i → i < 16 → gs ≡ with_form f fs → length gs ≡ i + 1
length_kept f fs gs i is lt kept = ap length (kept ∙ with_room f fs (omega arith)) ∙ length_push fs f ∙ omega arith
