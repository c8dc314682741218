-- Printing where there is room. Assumes nothing.
use Rattle.std.proofs.Common.{◌≡◌, ℕ, ◌<◌, ◌≤◌, false, leb, List, length, Ok, Err, sym, ap, ◌∙◌, ⊎_elim, arith}
use Rattle.std.proofs.lemmas.Bool.{cases_Bool, cond-true, cond-false, le-leb, leb-true}
use Rattle.printing.specs.Laying.{memory, laid, counted, greatest}
use Rattle.printing.specs.Outputs.{room_for, print_answer, print_kept}
use Rattle.printing.proofs.Laid.{counted_all, landed_all}

pub room_enough : (n : ℕ) (out : List ℕ) (u : Unit {0}) → room_for n out ≡ Ok u → n ≤ length out
room_enough n out u e =
    let refused : leb n (length out) ≡ false → n ≤ length out =
    λ f. let g : room_for n out ≡ Err (record {}) = cond-false _ _ _ f in cc in
    ⊎_elim (leb-true n (length out)) refused (cases_Bool (leb n (length out)))

-- what is laid at the front of memory that has room for as many bytes as are counted
module _ (bs out : List ℕ) (n : ℕ) (last : List ℕ) (all : memory n last ≡ laid (memory 0 out) bs) (room : counted bs ≤ length out) (short : length out < greatest) where
  enough : length bs ≤ length out
  enough = omega arith

  pub answer_whole : Ok n ≡ print_answer bs out
  answer_whole =
      let e = counted_all bs out n last all in
      let f : n ≡ length bs = omega (arith, enough) in
      ap Ok f ∙ sym (cond-true _ _ _ (le-leb (length bs) (length out) enough))

  pub kept_whole : last ≡ print_kept bs out
  kept_whole = landed_all bs out n last all enough (omega arith) ∙ sym (cond-true _ _ _ (le-leb (length bs) (length out) enough))
