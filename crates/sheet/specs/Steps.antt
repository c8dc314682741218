-- What the parts of a call find out and leave. Assumes nothing.
--     RoomLeft v m sp l r  the line l between the margins m has r units left behind a space sp, or none where that has no room
--     Joined v m sp a r    r is the open line with the word a joined to it, or none where it has no room for it
--     box_at x l           the box of the line l whose left edge is x
--     Open v r             r is the box that the open line would have if it closed now, by every account that v holds
--     FitOpen n rows l     the line l of n rows ends on the sheet, and each of its words takes a unit or more
--     shut_by b l v        v with the line l closed as the box b
--     Closed v m w         w is v with its open line closed, if there is one, between the margins m
use Rattle.std.specs.Prelude.{◌≡◌, ℕ, ◌+◌, ◌<◌, ◌≤◌, List, Some, None, Option, slice_set}
use Rattle.places.specs.declared.parts.Span.{Span}
use Rattle.places.specs.declared.parts.Line.{Line}
use Rattle.places.specs.Panels.{Placed}
use Rattle.places.specs.Bands.{room, band}
use Rattle.rows.specs.declared.Rows.{Rows}
use Rattle.rows.specs.Told.{Tells}
use Rattle.rules.specs.declared.boxes.BoxRecord.{BoxRecord}
use Rattle.rules.specs.declared.boxes.BoxRecord.TheVariants as B
use Rattle.rules.specs.declared.boxes.LineBox.{LineBox}
use Rattle.rules.specs.Account.{Size, Account, open_line}
use Rattle.rules.specs.Words.{longer}
use Rattle.sheet.specs.View.{View, Held}

abbrev pub RoomLeft : View → Span → ℕ → Line → Option ℕ → Type 0
RoomLeft v m sp l (Some n) = (qs : List Placed) → Tells v.rows qs → room (band m qs l.top v.line) ≡ l.used + sp + n
RoomLeft v m sp l None = (qs : List Placed) → Tells v.rows qs → room (band m qs l.top v.line) < l.used + sp

abbrev pub Joined : View → Span → ℕ → ℕ → Option Line → Type 0
Joined v m sp a (Some k) = (l : Line) × (v.current ≡ Some l) × (k ≡ longer sp a l) × ((qs : List Placed) → Tells v.rows qs → l.used + sp + a ≤ room (band m qs l.top v.line))
Joined v m sp a None = (l : Line) (qs : List Placed) → v.current ≡ Some l → Tells v.rows qs → l.used + sp + a ≤ room (band m qs l.top v.line) → ⊥

pub record FitOpen (line : ℕ) (rows : Rows) (l : Line) : Type 0 where
  pub low : l.top + line ≤ rows.height
  pub words : l.words ≤ l.used

-- the box of a line that begins at x
abbrev pub box_at : ℕ → Line → LineBox
box_at x l = record { x = x; y = l.top; width = l.used; words = l.words }

abbrev pub line_at : ℕ → Line → BoxRecord
line_at x l = B.Line (box_at x l)

-- the line l closes, and its box is b
abbrev pub shut_by : LineBox → Line → View → View
shut_by b l v = record v { recs = slice_set v.recs v.used (B.Line b); used = v.used + 1; cursor = l.top + v.line; current = None }

abbrev pub shut_at : ℕ → Option Line → View → View
shut_at x (Some l) v = shut_by (box_at x l) l v
shut_at x None v = v

pub record Closed (v : View) (m : Span) (w : View) : Type 0 where
  pub x : ℕ
  pub edge : (l : Line) (qs : List Placed) → v.current ≡ Some l → Tells v.rows qs → x ≡ (band m qs l.top v.line).from
  pub after : w ≡ shut_at x v.current v

abbrev pub Open : View → Option LineBox → Type 0
Open v r = (z : Size) (A : Account) → Held z A v → r ≡ open_line z A
