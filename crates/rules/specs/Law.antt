-- What holds at every moment of every run: the sheet holds the best that the rules allow. Assumes nothing.
--     StoodBest z B o x y   on the account B the panel o has (x, y) as its best place
--     Placeless z B o       on the account B no place is permitted for the panel o
--     Homeless z sp B a     on the account B the word fits neither the open line nor a row open to it
--     Fate z B l C m        what the moment m made of the open line l, with the account B before it and C after it
--     Right z past A        the law of the run past, whose account is A
use Rattle.std.specs.Prelude.{◌≡◌, ℕ, ◌+◌, ◌<◌, List, ◌∷◌, ◌++◌, length, take, drop, Some, slice_index}
use Rattle.places.specs.declared.parts.Line.{Line}
use Rattle.places.specs.Permitted.{Wanted, Permitted, Best}
use Rattle.places.specs.Lines.{Wide}
use Rattle.rules.specs.declared.refusals.Refusal.TheVariants.{NoPlace}
use Rattle.rules.specs.declared.paragraphs.Paragraph.{Paragraph}
use Rattle.rules.specs.Account.{Size, rows_of, Account, scene}
use Rattle.rules.specs.Words.{Apart, LiesAt, LeastAt}
use Rattle.rules.specs.Runs.{Event, event, Run, calls, flows, panels, ends, flowed, stands, ended, refused}
use Rattle.rules.specs.Moments.{Mark, sets, does, word_marks, marks, Trace, Quiet, stood}

pub record StoodBest (z : Size) (B : Account) (o : Wanted) (x y : ℕ) : Type 0 where
  pub paragraph : Paragraph
  pub is_open : B.para ≡ Some paragraph
  pub best : Best (rows_of z) (scene B paragraph) o x y

pub record Placeless (z : Size) (B : Account) (o : Wanted) : Type 0 where
  pub paragraph : Paragraph
  pub is_open : B.para ≡ Some paragraph
  pub none : (x y : ℕ) → Permitted (rows_of z) (scene B paragraph) o x y → ⊥

pub record BegunBest (z : Size) (B : Account) (a t : ℕ) : Type 0 where
  pub paragraph : Paragraph
  pub is_open : B.para ≡ Some paragraph
  pub least : LeastAt z paragraph B a t

pub record Homeless (z : Size) (sp : ℕ) (B : Account) (a : ℕ) : Type 0 where
  pub paragraph : Paragraph
  pub is_open : B.para ≡ Some paragraph
  pub line : Apart z paragraph sp B a
  pub row : (t : ℕ) → LiesAt z paragraph B a t → ⊥

-- the open line l has no room for one more word of advance a
pub record Filled (z : Size) (sp : ℕ) (B : Account) (l : Line) (a : ℕ) : Type 0 where
  pub paragraph : Paragraph
  pub is_open : B.para ≡ Some paragraph
  pub narrow : Wide (rows_of z) (scene B paragraph) l.top (l.used + sp + a) → ⊥

pub data Fate (z : Size) (B : Account) (l : Line) (C : Account) : Mark → Type 0 where
  stays : {m : Mark} → C.current ≡ Some l → Fate z B l C m
  grows : {sp a : ℕ} {k : Line} → C.current ≡ Some k → k.top ≡ l.top → k.used ≡ l.used + sp + a → Fate z B l C (sets sp a)
  is_ended : {n : ℕ} → Fate z B l C (does (ends n) ended)
  is_filled : {sp a : ℕ} → Filled z sp B l a → Fate z B l C (sets sp a)

pub record Right (z : Size) (past : List Event) (A : Account) : Type 0 where
  -- the calls alone decide the answers, the open line and the list of boxes
  pub alone : (other : List Event) (B : Account) → Run z other B → calls other ≡ calls past → (other ≡ past) × (B ≡ A)
  -- every panel that stands was permitted and best, against the account just before it
  pub best : (later earlier : List Event) (o : Wanted) (x y : ℕ) → past ≡ later ++ (event (panels o) (stands x y) ∷ earlier) → (B : Account) → Run z earlier B → StoodBest z B o x y
  -- the panels of the account are those that were answered with a place
  pub listed : A.placed ≡ stood past
  -- a panel refused for want of a place had none
  pub none : (later earlier : List Event) (o : Wanted) → past ≡ later ++ (event (panels o) (refused NoPlace) ∷ earlier) → (B : Account) → Run z earlier B → Placeless z B o
  -- every line's first word fitted no higher row open to it, against the account just before the word
  pub begun : (later earlier : List Mark) (sp a : ℕ) → marks past ≡ later ++ (sets sp a ∷ earlier) → (B C : Account) → Trace z earlier B → Trace z (sets sp a ∷ earlier) C → (l : Line) → C.current ≡ Some l → l.words ≡ 1 → BegunBest z B a l.top
  -- no line closed while the paragraph's next word still fitted: of two words set one after the other, in one flow or in two
  -- with panels between them, if the second began a line, then that of the first had no room for it
  pub filled : (later between earlier : List Mark) (sp a sp' b : ℕ) → marks past ≡ later ++ (sets sp' b ∷ (between ++ (sets sp a ∷ earlier))) → Quiet between → (B C D : Account) → Trace z (sets sp a ∷ earlier) B → Trace z (between ++ (sets sp a ∷ earlier)) C → Trace z (sets sp' b ∷ (between ++ (sets sp a ∷ earlier))) D → (l m : Line) → B.current ≡ Some l → D.current ≡ Some m → m.words ≡ 1 → Filled z sp' C l b
  -- and a line closes in no other way than for such a word or at its paragraph's end
  pub fated : (later earlier : List Mark) (m : Mark) → marks past ≡ later ++ (m ∷ earlier) → (B C : Account) → Trace z earlier B → Trace z (m ∷ earlier) C → (l : Line) → B.current ≡ Some l → Fate z B l C m
  -- a word refused for want of a row fitted neither the open line nor a row open to it, against the account after the words set before it
  pub homeless : (later earlier : List Event) (ws : List ℕ) (sp from n : ℕ) → past ≡ later ++ (event (flows ws sp from) (flowed n (Some NoPlace)) ∷ earlier) → (B : Account) → Trace z (word_marks sp (take n (drop from ws)) (marks earlier)) B → (n < length (drop from ws)) × Homeless z sp B (slice_index (drop from ws) n)
  -- the account is that of the moments; each moment has an account just before it and one just after it, and no other
  pub traced : Trace z (marks past) A
  pub moment : (later earlier : List Mark) (m : Mark) → marks past ≡ later ++ (m ∷ earlier) → (B C : Account) × Trace z earlier B × Trace z (m ∷ earlier) C
  pub single : (ms : List Mark) (B C : Account) → Trace z ms B → Trace z ms C → B ≡ C

abbrev pub RunsAreRight : Type 0
RunsAreRight = (z : Size) (past : List Event) (A : Account) → Run z past A → Right z past A
