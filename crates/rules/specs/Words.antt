-- How words are set (CSS 2.1, 9.4.2 and 9.5). Assumes nothing.
--     Joins z p sp A a l       a word of advance a fits the open line l, after a space of sp units
--     WordStep z p sp A a B    the word is set, and B is the account after it: it joins, or begins a line at the least row open to it
--     WordRefused z p sp A a e the word is refused with e
--     Words z p sp A ws n o B  the words ws are set one by one up to the first that is refused: n of them; o is that refusal, if any
use Rattle.std.specs.Prelude.{◌≡◌, ℕ, suc, ◌+◌, ◌<◌, ◌≤◌, true, false, List, [], ◌∷◌, Some, None, Option}
use Rattle.places.specs.declared.parts.Line.{Line}
use Rattle.places.specs.Bands.{room}
use Rattle.places.specs.Lines.{Wide, Lies, Least}
use Rattle.rules.specs.declared.refusals.Refusal.{Refusal}
use Rattle.rules.specs.declared.refusals.Refusal.TheVariants.{WideWord, ListFull, NoPlace}
use Rattle.rules.specs.declared.paragraphs.Paragraph.{Paragraph}
use Rattle.rules.specs.Account.{Size, rows_of, Account, scene, full, shut_boxes, start_row}

pub record Joins (z : Size) (p : Paragraph) (sp : ℕ) (A : Account) (a : ℕ) (l : Line) : Type 0 where
  pub is_open : A.current ≡ Some l
  pub room : Wide (rows_of z) (scene A p) l.top (l.used + sp + a)

-- the open line has no room for the word, or none is open
abbrev pub Apart : Size → Paragraph → ℕ → Account → ℕ → Type 0
Apart z p sp A a = (l : Line) → Joins z p sp A a l → ⊥

-- a row open to the word where it fits a new line, and the highest of them
abbrev pub LiesAt : Size → Paragraph → Account → ℕ → ℕ → Type 0
LiesAt z p A a t = Lies (rows_of z) (scene A p) (start_row z A) a t

abbrev pub LeastAt : Size → Paragraph → Account → ℕ → ℕ → Type 0
LeastAt z p A a t = Least (rows_of z) (scene A p) (start_row z A) a t

abbrev pub longer : ℕ → ℕ → Line → Line
longer sp a l = record { top = l.top; used = l.used + sp + a; words = l.words + 1 }

abbrev pub with_word : Account → Line → Account
with_word A l = record {
  placed = A.placed;
  lines = A.lines;
  boxes = A.boxes;
  cursor = A.cursor;
  count = A.count;
  para = A.para;
  current = Some l;
}

-- the open line, if any, closes, and the word begins a line at row t
abbrev pub with_line : Size → Paragraph → Account → ℕ → ℕ → Account
with_line z p A a t = record {
  placed = A.placed;
  lines = t ∷ A.lines;
  boxes = shut_boxes z A p A.current;
  cursor = start_row z A;
  count = A.count;
  para = A.para;
  current = Some (record { top = t; used = a; words = 1 });
}

pub data WordStep (z : Size) (p : Paragraph) (sp : ℕ) (A : Account) (a : ℕ) : Account → Type 0 where
  word_joins : (l : Line) → a ≤ room p.margins → Joins z p sp A a l → WordStep z p sp A a (with_word A (longer sp a l))
  word_opens : (t : ℕ) → a ≤ room p.margins → Apart z p sp A a → full z A ≡ false → LeastAt z p A a t → WordStep z p sp A a (with_line z p A a t)

pub data WordRefused (z : Size) (p : Paragraph) (sp : ℕ) (A : Account) (a : ℕ) : Refusal → Type 0 where
  word_wide : room p.margins < a → WordRefused z p sp A a WideWord
  word_full : a ≤ room p.margins → Apart z p sp A a → full z A ≡ true → WordRefused z p sp A a ListFull
  word_none : a ≤ room p.margins → Apart z p sp A a → full z A ≡ false → ((t : ℕ) → LiesAt z p A a t → ⊥) → WordRefused z p sp A a NoPlace

pub data Words (z : Size) (p : Paragraph) (sp : ℕ) : Account → List ℕ → ℕ → Option Refusal → Account → Type 0 where
  all_set : {A : Account} → Words z p sp A [] 0 None A
  stopped : {A : Account} {a : ℕ} {ws : List ℕ} {e : Refusal} → WordRefused z p sp A a e → Words z p sp A (a ∷ ws) 0 (Some e) A
  one_set : {A B C : Account} {a : ℕ} {ws : List ℕ} {n : ℕ} {o : Option Refusal} → WordStep z p sp A a B → Words z p sp B ws n o C → Words z p sp A (a ∷ ws) (suc n) o C
