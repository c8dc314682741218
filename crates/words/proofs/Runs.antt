-- The longest run of bytes that pass a test, from an offset of a text on.
use Rattle.std.proofs.Common.{◌≡◌, ℕ, ◌+◌, ◌-◌, ◌<◌, ◌≤◌, Bool, true, false, List, length, get_or, drop, sym, ap, ◌∙◌, arith}
use Rattle.std.specs.List.{prefix_len}
use Rattle.std.proofs.lemmas.List.{length-drop, get_or-drop}
use Rattle.std.proofs.lemmas.List.Sums.{prefix_len_passes, prefix_len_stops, prefix_len-le-length}

module _ (p : ℕ → Bool) (text : List ℕ) (at : ℕ) where
  pub run_passes : (k : ℕ) → at ≤ k → k < at + prefix_len p (drop at text) → p (get_or text k 0) ≡ true
  run_passes k h below =
      let e : at + (k - at) ≡ k = omega arith in
      ap (λ i. p (get_or text i 0)) (sym e) ∙ ap p (sym (get_or-drop at text (k - at) 0)) ∙ prefix_len_passes p (drop at text) (k - at) 0 (omega arith)

  pub run_stops : at + prefix_len p (drop at text) < length text → p (get_or text (at + prefix_len p (drop at text)) 0) ≡ false
  run_stops h =
      ap p (sym (get_or-drop at text (prefix_len p (drop at text)) 0)) ∙ prefix_len_stops p (drop at text) 0 (omega (arith, length-drop at text))

  pub run_within : at ≤ length text → at + prefix_len p (drop at text) ≤ length text
  run_within h = omega (arith, prefix_len-le-length p (drop at text), length-drop at text)
