-- A run word by word: what happened at each moment, and the account there. Assumes nothing.
--     Mark         a word that was set, or any other call
--     marks es     the moments of the calls es, the newest first
--     Trace z ms A the moments ms came to a new sheet, and A is its account
--     Quiet ms     no word is set in ms, and no paragraph ends
use Rattle.std.specs.Prelude.{◌≡◌, ℕ, List, [], ◌∷◌, take, drop, Some, ◌≢◌}
use Rattle.places.specs.Panels.{Placed}
use Rattle.places.specs.Permitted.{put}
use Rattle.rules.specs.declared.paragraphs.Paragraph.{Paragraph}
use Rattle.rules.specs.Account.{Size, Account, fresh}
use Rattle.rules.specs.Words.{WordStep}
use Rattle.rules.specs.Runs.{Call, Answer, Event, Step, opens, flows, panels, ends, opened, flowed, stands, ended, refused}

pub data Mark : Type 0 where
  -- a word of the second advance was set, after a space of the first if it joined
  sets : ℕ → ℕ → Mark
  does : Call → Answer → Mark

abbrev pub word_marks : ℕ → List ℕ → List Mark → List Mark
word_marks sp [] ms = ms
word_marks sp (a ∷ ws) ms = word_marks sp ws (sets sp a ∷ ms)

abbrev pub set_count : Answer → ℕ
set_count (flowed n o) = n
set_count (opened n) = 0
set_count (stands x y) = 0
set_count ended = 0
set_count (refused e) = 0

abbrev pub marks_of : Call → Answer → List Mark → List Mark
marks_of (flows ws sp from) a ms = word_marks sp (take (set_count a) (drop from ws)) ms
marks_of (panels o) a ms = does (panels o) a ∷ ms
marks_of (opens m c) a ms = does (opens m c) a ∷ ms
marks_of (ends n) a ms = does (ends n) a ∷ ms

abbrev pub marks : List Event → List Mark
marks [] = []
marks (e ∷ es) = marks_of e.call e.answer (marks es)

-- a call that sets no words
abbrev pub Plain : Call → Type 0
Plain (flows ws sp from) = ⊥
Plain (panels o) = Unit {0}
Plain (opens m c) = Unit {0}
Plain (ends n) = Unit {0}

pub data Trace (z : Size) : List Mark → Account → Type 0 where
  begin : Trace z [] fresh
  word : {ms : List Mark} {A B : Account} (p : Paragraph) (sp a : ℕ) → Trace z ms A → A.para ≡ Some p → WordStep z p sp A a B → Trace z (sets sp a ∷ ms) B
  other : {ms : List Mark} {A B : Account} (c : Call) (a : Answer) → Plain c → Trace z ms A → Step z A c a B → Trace z (does c a ∷ ms) B

abbrev pub Quiet : List Mark → Type 0
Quiet [] = Unit {0}
Quiet (sets sp a ∷ ms) = ⊥
Quiet (does c a ∷ ms) = (a ≢ ended) × Quiet ms

-- the panels that were answered with a place, the newest first
abbrev pub stood_at : Call → Answer → List Placed → List Placed
stood_at (panels o) (stands x y) qs = put o x y ∷ qs
stood_at (panels o) (opened n) qs = qs
stood_at (panels o) (flowed n r) qs = qs
stood_at (panels o) ended qs = qs
stood_at (panels o) (refused e) qs = qs
stood_at (flows ws sp from) a qs = qs
stood_at (opens m c) a qs = qs
stood_at (ends n) a qs = qs

abbrev pub stood : List Event → List Placed
stood [] = []
stood (e ∷ es) = stood_at e.call e.answer (stood es)
