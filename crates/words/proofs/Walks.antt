-- A walk over the words of a text: from it follows what the words are, and that no other list is so.
use Rattle.std.proofs.Common.{◌≡◌, ℕ, zero, suc, ◌+◌, ◌*◌, ◌<◌, ◌≤◌, ◌⊎◌, List, [], ◌∷◌, length, get_or, sym, refl, ap, ◌∙◌, subst, inl, inr, ⊎_elim, arith}
use Rattle.std.specs.List.{AllByRecursion}
use Rattle.std.proofs.ByRecursion.{All-weaker}
use Rattle.std.proofs.lemmas.Bool.{both_ways, cases_lt, not-true}
use Rattle.words.specs.declared.spans.Span.{Span}
use Rattle.words.specs.Words.{ink, blank, end, word_start, word_end, words_left, words_of}
use Rattle.words.specs.Law.{Inked, Blank, Holds, Word, Apart, Once, WordsAreRuns, HalfAsManyWords}
use Rattle.words.proofs.Runs.{run_passes, run_stops}
use Rattle.words.proofs.Steps.{word, none_left, word_left, word_lies}

-- from `at` the next word is w, with nothing but blanks before it
pub record Step (text : List ℕ) (at : ℕ) (w : Span) : Type 0 where
  pub from : at ≤ w.place
  pub skips : (k : ℕ) → at ≤ k → k < w.place → Blank text k
  pub some : 0 < w.length
  pub within : end w ≤ length text
  pub inked : (k : ℕ) → Holds w k → Inked text k
  pub after : end w < length text → Blank text (end w)

abbrev pub Walk : List ℕ → ℕ → List Span → Type 0
Walk text at [] = (k : ℕ) → at ≤ k → k < length text → Blank text k
Walk text at (w ∷ ws) = Step text at w × Walk text (end w) ws

module _ (text : List ℕ) where
  step : (at place stop : ℕ) → place ≡ word_start text at → place < length text → stop ≡ word_end text place → Step text at (word place stop)
  step at place stop starts within stops =
      let lies = word_lies text at place stop starts within stops in
      let past : end (word place stop) ≡ word_end text place = omega arith in
      record {
        from = lies.after;
        skips = λ k h below. not-true _ (run_passes blank text at k h (omega arith));
        some = lies.some;
        within = lies.within;
        inked = λ k h. run_passes ink text place k h.0 (omega arith);
        after = λ h. ap (λ k. ink (get_or text k 0)) past ∙ run_stops ink text place (omega arith);
      }

  none : (at : ℕ) → length text ≤ word_start text at → Walk text at (words_left text at)
  none at h =
      let blanks : Walk text at [] = λ k from below. not-true _ (run_passes blank text at k from (omega arith)) in
      subst (Walk text at) (sym (none_left text at h)) blanks

  -- n bounds how many bytes are left
  walk : (n at : ℕ) → length text ≤ n + at → Walk text at (words_left text at)
  walk zero at h = none at (omega arith)
  walk (suc n) at h =
      ⊎_elim
      (λ more.
      let place = word_start text at in
      let stop = word_end text place in
      let first = step at place stop refl more refl in
      let lies = word_lies text at place stop refl more refl in
      subst (Walk text at) (sym (word_left text at place stop refl more refl)) (first, walk n (end (word place stop)) (omega arith)))
      (none at)
      (cases_lt (word_start text at) (length text))

  pub all_walked : Walk text 0 (words_of text)
  all_walked = walk (length text) 0 (omega arith)

  -- where a word has ended, the next one begins later
  abbrev Ended : ℕ → Type 0
  Ended at = at < length text → Blank text at

  later : (at : ℕ) (w : Span) → Step text at w → Ended at → at < w.place
  later at w s ended =
      ⊎_elim (λ h. h)
      (λ h. let e : w.place ≡ at = omega (arith, s.from) in
      absurd (both_ways _ (ended (omega (arith, s.some, s.within))) (s.inked at (omega arith, omega (arith, s.some)))))
      (cases_lt at w.place)

  all_later : (at : ℕ) (ws : List Span) → Walk text at ws → Ended at → AllByRecursion (λ v. at < v.place) ws
  all_later at [] walked ended = tt
  all_later at (w ∷ ws) (s, walked) ended =
      let here = later at w s ended in
      (here, All-weaker (λ v. end w < v.place) (λ v. at < v.place) (λ v h. omega arith) ws (all_later (end w) ws walked s.after))

  all_apart : (at : ℕ) (ws : List Span) → Walk text at ws → Apart ws
  all_apart at [] walked = tt
  all_apart at (w ∷ ws) (s, walked) = (all_later (end w) ws walked s.after, all_apart (end w) ws walked)

  all_once : (at : ℕ) (ws : List Span) → Walk text at ws → (k : ℕ) → at ≤ k → k < length text → Inked text k → Once k ws
  all_once at [] walked k from below inked = both_ways _ (walked k from below) inked
  all_once at (w ∷ ws) (s, walked) k from below inked =
      ⊎_elim
      (λ early. absurd (both_ways _ (s.skips k from early) inked))
      (λ reached.
      ⊎_elim
      (λ inside. inl ((reached, inside), All-weaker (λ v. end w < v.place) (λ v. Holds v k → ⊥) (λ v h held. omega (arith, held.0)) ws (all_later (end w) ws walked s.after)))
      (λ past. inr ((λ held. omega (arith, held.1)), all_once (end w) ws walked k past below inked))
      (cases_lt k (end w)))
      (cases_lt k w.place)

  -- at the start of the text, or where a word has ended
  abbrev Fresh : ℕ → Type 0
  Fresh at = (at ≡ 0) ⊎ Ended at

  all_runs : (at : ℕ) (ws : List Span) → Walk text at ws → Fresh at → AllByRecursion (Word text) ws
  all_runs at [] walked fresh = tt
  all_runs at (w ∷ ws) (s, walked) fresh =
      let clear : (k : ℕ) → k + 1 ≡ w.place → at ≤ k =
      λ k e. ⊎_elim (λ z. omega arith) (λ ended. omega (arith, later at w s ended)) fresh in
      let one : Word text w = record { some = s.some; within = s.within; inked = s.inked; before = λ k e. s.skips k (clear k e) (omega arith); after = s.after } in
      (one, all_runs (end w) ws walked (inr s.after))

  half : (at : ℕ) (ws : List Span) → Walk text at ws → Ended at → at ≤ length text → 2 * length ws + at ≤ length text
  half at [] walked ended within = omega arith
  half at (w ∷ ws) (s, walked) ended within = omega (arith, later at w s ended, s.some, half (end w) ws walked s.after s.within)

  half_first : (ws : List Span) → Walk text 0 ws → 2 * length ws ≤ length text + 1
  half_first [] walked = omega arith
  half_first (w ∷ ws) (s, walked) = omega (arith, s.some, half (end w) ws walked s.after s.within)

pub words_are_runs : WordsAreRuns
words_are_runs text =
    let walked = all_walked text in
    let ws = words_of text in
    record { runs = all_runs text 0 ws walked (inl refl); apart = all_apart text 0 ws walked; covered = λ k below inked. all_once text 0 ws walked k (omega arith) below inked }

pub half_as_many_words : HalfAsManyWords
half_as_many_words text = half_first text (words_of text) (all_walked text)
