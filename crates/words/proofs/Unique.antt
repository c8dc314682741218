-- A text has no other words than those of a walk over it.
use Rattle.std.proofs.Common.{◌≡◌, ℕ, ◌<◌, ◌≤◌, List, [], ◌∷◌, length, get_or, sym, refl, subst, ⊎_elim, arith}
use Rattle.std.specs.List.{AllByRecursion}
use Rattle.std.proofs.ByRecursion.{All-weaker}
use Rattle.std.proofs.lemmas.Bool.{both_ways, cases_Bool, cases_lt}
use Rattle.words.specs.declared.spans.Span.{Span}
use Rattle.words.specs.Words.{ink, end, words_of}
use Rattle.words.specs.Law.{Inked, Blank, Word, Apart, Once, WordsAreThese}
use Rattle.words.proofs.Walks.{Step, Walk, all_walked}

-- a byte up to e lies in no word that begins after e
not_once : (e k : ℕ) (ws : List Span) → AllByRecursion (λ v. e < v.place) ws → k ≤ e → Once k ws → ⊥
not_once e k [] later h once = once
not_once e k (w ∷ ws) (here, later) h once =
    ⊎_elim (λ o. omega (arith, o.0.0)) (λ o. not_once e k ws later h o.1) once

module _ (text : List ℕ) where
  -- the words from `at` on hold all the ink from there on
  abbrev Covered : ℕ → List Span → Type 0
  Covered at ws = (k : ℕ) → at ≤ k → k < length text → Inked text k → Once k ws

  not_inked : (k : ℕ) → (Inked text k → ⊥) → Blank text k
  not_inked k refuted = ⊎_elim (λ e. absurd (refuted e)) (λ e. e) (cases_Bool (ink (get_or text k 0)))

  walked : (at : ℕ) (ws : List Span) → AllByRecursion (Word text) ws → Apart ws → AllByRecursion (λ v. at ≤ v.place) ws → Covered at ws → Walk text at ws
  walked at [] runs apart from covered = λ k h below. not_inked k (covered k h below)
  walked at (w ∷ ws) (run, runs) (later, apart) (from, others) covered =
      let skips : (k : ℕ) → at ≤ k → k < w.place → Blank text k =
      λ k h early. not_inked k (λ inked.
      ⊎_elim (λ o. omega (arith, o.0.0)) (λ o. not_once (end w) k ws later (omega arith) o.1) (covered k h (omega (arith, run.within)) inked)) in
      let rest : Covered (end w) ws =
      λ k h below inked. ⊎_elim (λ o. absurd (omega (arith, o.0.1))) (λ o. o.1) (covered k (omega arith) below inked) in
      let first : Step text at w = record { from = from; skips = skips; some = run.some; within = run.within; inked = run.inked; after = run.after } in
      (first, walked (end w) ws runs apart (All-weaker (λ v. end w < v.place) (λ v. end w ≤ v.place) (λ v h. omega arith) ws later) rest)

  -- of two first words neither begins, nor ends, before the other
  not_earlier : (at : ℕ) (v w : Span) → Step text at v → Step text at w → v.place ≤ w.place
  not_earlier at v w s t =
      ⊎_elim (λ h. absurd (both_ways _ (s.skips w.place t.from h) (t.inked w.place (omega arith, omega (arith, t.some))))) (λ h. h)
      (cases_lt w.place v.place)

  not_longer : (at : ℕ) (v w : Span) → Step text at v → Step text at w → v.place ≡ w.place → end v ≤ end w
  not_longer at v w s t e =
      ⊎_elim (λ h. absurd (both_ways _ (t.after (omega (arith, s.within))) (s.inked (end w) (omega arith, h)))) (λ h. h)
      (cases_lt (end w) (end v))

  same_step : (at : ℕ) (v w : Span) → Step text at v → Step text at w → v ≡ w
  same_step at v w s t =
      let p : v.place ≡ w.place = omega (arith, not_earlier at v w s t, not_earlier at w v t s) in
      let l : v.length ≡ w.length = omega (arith, not_longer at v w s t p, not_longer at w v t s (sym p)) in
      λ j. record { place = p j; length = l j }

  not_none : (at : ℕ) (w : Span) → Step text at w → Walk text at [] → ⊥
  not_none at w s blanks =
      both_ways _ (blanks w.place s.from (omega (arith, s.some, s.within))) (s.inked w.place (omega arith, omega (arith, s.some)))

  same_walk : (at : ℕ) (vs ws : List Span) → Walk text at vs → Walk text at ws → vs ≡ ws
  same_walk at [] [] p q = refl
  same_walk at [] (w ∷ ws) p (t, q) = absurd (not_none at w t p)
  same_walk at (v ∷ vs) [] (s, p) q = absurd (not_none at v s q)
  same_walk at (v ∷ vs) (w ∷ ws) (s, p) (t, q) =
      let e = same_step at v w s t in
      λ j. e j ∷ same_walk (end v) vs ws p (subst (λ u. Walk text (end u) ws) (sym e) q) j

pub words_are_these : WordsAreThese
words_are_these text ws law =
    same_walk text 0 ws (words_of text)
    (walked text 0 ws law.runs law.apart (All-weaker (Word text) (λ v. 0 ≤ v.place) (λ v run. omega arith) ws law.runs) (λ k h. law.covered k))
    (all_walked text)
