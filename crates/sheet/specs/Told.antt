-- What one call, and one word of it, makes of a sheet's fields. Assumes nothing.
--     Told c a v w               whatever calls led to v: with the call c, answered by a, they lead to w
--     WordTold p sp a r v w      whatever account v holds: r tells whether the word a is set on it, and w holds what comes of it
--     Flowing p sp ws i j v w    the words from i up to j are set: whatever comes of those from j on, comes of all from i on
use Rattle.std.specs.Prelude.{ℕ, ◌+◌, ◌-◌, List, ◌∷◌, drop, Ok, Err, Option, Result}
use Rattle.rules.specs.declared.paragraphs.Paragraph.{Paragraph}
use Rattle.rules.specs.declared.refusals.Refusal.{Refusal}
use Rattle.rules.specs.Account.{Size, Account}
use Rattle.rules.specs.Words.{WordStep, WordRefused, Words}
use Rattle.rules.specs.Runs.{Call, Answer, Event, event}
use Rattle.sheet.specs.View.{View, Held, Kept}

abbrev pub Told : Call → Answer → View → View → Type 0
Told c a v w = (z : Size) (past : List Event) → Kept z past v → Kept z (event c a ∷ past) w

abbrev pub Worded : Size → Paragraph → ℕ → Account → ℕ → Result Unit Refusal → View → Type 0
Worded z p sp A a (Ok u) w = (B : Account) × WordStep z p sp A a B × Held z B w
Worded z p sp A a (Err e) w = WordRefused z p sp A a e × Held z A w

abbrev pub WordTold : Paragraph → ℕ → ℕ → Result Unit Refusal → View → View → Type 0
WordTold p sp a r v w = (z : Size) (A : Account) → Held z A v → Worded z p sp A a r w

abbrev pub Flowing : Paragraph → ℕ → List ℕ → ℕ → ℕ → View → View → Type 0
Flowing p sp ws i j v w = (z : Size) (A : Account) → Held z A v → (B : Account) × Held z B w × ((n : ℕ) (o : Option Refusal) (C : Account) → Words z p sp B (drop j ws) n o C → Words z p sp A (drop i ws) ((j - i) + n) o C)
