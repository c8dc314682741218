-- The steps of a flight, as a loop takes them. Assumes nothing.
use Rattle.std.proofs.Common.{◌≡◌, ℕ, suc, ◌+◌, ◌-◌, ◌<◌, List, [], ◌∷◌, ◌++◌, length, Ok, Result, sym, ap, ◌∙◌, arith, length-append}
use Rattle.lexer.specs.declared.faults.Fault.{Fault}
use Rattle.lexer.specs.declared.fields.Fields.{Fields}
use Rattle.lexer.specs.Fields.{next}
use Rattle.lexer.specs.FieldsLeft.{Stepped}
use Rattle.lexer.specs.Forms.{after, a_number, reading, take}
use Rattle.shapes.specs.declared.stairs.Step.{Step}
use Rattle.lines.specs.Flights.{steps_from}

abbrev pub step : ℕ → ℕ → Step
step r e = record { rows = r; extent = e }

-- i of k steps are taken, the cursor s has become t, and what is left gives what all of them give
pub record Sofar (k i : ℕ) (s t : Fields) (ss : List Step) : Type 0 where
  pub many : length ss ≡ i
  pub line : t.line ≡ s.line
  pub left : steps_from (k - i) t.line.bytes.now t.place ss ≡ steps_from k s.line.bytes.now s.place []

module _ (line : List ℕ) (p k i : ℕ) (ss : List Step) (h : i < k) where
  steps_more : steps_from (k - i) line p ss ≡ take a_number line p (λ r q. take a_number line q (λ e s. steps_from (k - (i + 1)) line s (ss ++ (step r e ∷ []))))
  steps_more = let n : k - i ≡ suc (k - (i + 1)) = omega arith in ap (λ m. steps_from m line p ss) n

  rows_with : (o : Result ℕ Fault) → o ≡ reading a_number line p → after o (λ r. take a_number line (next line p) (λ e s. steps_from (k - (i + 1)) line s (ss ++ (step r e ∷ [])))) ≡ steps_from (k - i) line p ss
  rows_with o e = ap (λ (x : Result ℕ Fault). after x (λ r. take a_number line (next line p) (λ e s. steps_from (k - (i + 1)) line s (ss ++ (step r e ∷ []))))) e ∙ sym steps_more

  step_with : (r : ℕ) (o : Result ℕ Fault) → Ok r ≡ reading a_number line p → o ≡ reading a_number line (next line p) → after o (λ e. steps_from (k - (i + 1)) line (next line (next line p)) (ss ++ (step r e ∷ []))) ≡ steps_from (k - i) line p ss
  step_with r o d e = ap (λ (x : Result ℕ Fault). after x (λ e. steps_from (k - (i + 1)) line (next line (next line p)) (ss ++ (step r e ∷ [])))) e ∙ rows_with (Ok r) d

module _ (k i : ℕ) (s t : Fields) (ss : List Step) (sofar : Sofar k i s t ss) (h : i < k) where
  module _ (u : Fields) (one : Stepped t u) (r : ℕ) (d : Ok r ≡ reading a_number t.line.bytes.now t.place) where
    second : (o : Result ℕ Fault) → o ≡ reading a_number u.line.bytes.now u.place → o ≡ reading a_number t.line.bytes.now (next t.line.bytes.now t.place)
    second o e = e ∙ (λ j. reading a_number (one.line j).bytes.now (one.place j))

    pub step_good : (v : Fields) → Stepped u v → (x : ℕ) → Ok x ≡ reading a_number u.line.bytes.now u.place → (more : List Step) → more ≡ ss ++ (step r x ∷ []) → Sofar k (i + 1) s v more
    step_good v two x e more taken =
        let place : v.place ≡ next t.line.bytes.now (next t.line.bytes.now t.place) = two.place ∙ (λ j. next (one.line j).bytes.now (one.place j)) in
        let lines = two.line ∙ one.line in
        record {
          many = ap length taken ∙ length-append ss (step r x ∷ []) ∙ ap (λ n. n + 1) sofar.many;
          line = lines ∙ sofar.line;
          left = (λ j. steps_from (k - (i + 1)) (lines j).bytes.now (place j) (taken j))
              ∙ step_with t.line.bytes.now t.place k i ss h r (Ok x) d (second (Ok x) e)
              ∙ sofar.left;
        }
