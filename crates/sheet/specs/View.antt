-- What a sheet's fields hold. Assumes nothing.
--     View          the fields of a sheet, as plain values
--     Held z A v    the fields v hold the account A of a sheet of size z
--     Kept z es v   the calls es came to a new sheet of size z, with these answers, and the fields v hold the account of them
--     Reached v     some calls led to v from a new sheet
--     Rest v w      the records past those in use are in w what they were in v
--     start_of ..   the first row open to a new line
--     number_in o   the number of the open paragraph o, if there is one
use Rattle.std.specs.Prelude.{◌≡◌, ℕ, ◌+◌, ◌≤◌, max, List, reverse, length, take, drop, Some, None, Option}
use Rattle.places.specs.declared.parts.Line.{Line}
use Rattle.places.specs.Tried.{panel_tops, greatest}
use Rattle.rows.specs.declared.Rows.{Rows}
use Rattle.rows.specs.Told.{Tells}
use Rattle.rules.specs.declared.boxes.BoxRecord.{BoxRecord}
use Rattle.rules.specs.declared.paragraphs.Paragraph.{Paragraph}
use Rattle.rules.specs.Account.{Size, Account}
use Rattle.rules.specs.Runs.{Event, Run}
use Rattle.sheet.specs.declared.clearance.Bottoms.{Bottoms}
use Rattle.sheet.specs.Clearance.{bottoms_of}

pub record View : Type 0 where
  pub rows : Rows
  pub recs : List BoxRecord
  pub line : ℕ
  pub used : ℕ
  pub top : ℕ
  pub bottoms : Bottoms
  pub cursor : ℕ
  pub count : ℕ
  pub para : Option Paragraph
  pub current : Option Line

-- the sheet is of this size
pub record Sized (z : Size) (rows : Rows) (line places : ℕ) : Type 0 where
  pub width_is : rows.width ≡ z.width
  pub height_is : rows.height ≡ z.height
  pub line_is : line ≡ z.line
  pub places_is : places ≡ z.places

-- the first `used` records are these boxes, the oldest first
pub record Boxed (boxes : List BoxRecord) (used : ℕ) (recs : List BoxRecord) : Type 0 where
  pub used_is : used ≡ length boxes
  pub list_is : take used recs ≡ reverse boxes

pub record Held (z : Size) (A : Account) (v : View) : Type 0 where
  pub sized : Sized z v.rows v.line (length v.recs)
  pub tells : Tells v.rows A.placed
  pub top_is : v.top ≡ max (panel_tops A.placed) (greatest A.lines)
  pub bottoms_are : v.bottoms ≡ bottoms_of A.placed
  pub boxed : Boxed A.boxes v.used v.recs
  pub cursor_is : v.cursor ≡ A.cursor
  pub count_is : v.count ≡ A.count
  pub para_is : v.para ≡ A.para
  pub current_is : v.current ≡ A.current

pub record Kept (z : Size) (past : List Event) (v : View) : Type 0 where
  pub account : Account
  pub run : Run z past account
  pub held : Held z account v

abbrev pub Reached : View → Type 0
Reached v = ∥ record { size : Size; past : List Event; kept : Kept size past v } ∥₁

pub record Rest (v w : View) : Type 0 where
  pub grows : v.used ≤ w.used
  pub keeps : drop w.used w.recs ≡ drop w.used v.recs

-- the first row open to a new line: below the open one, or else from the cursor on
abbrev pub start_of : ℕ → ℕ → Option Line → ℕ
start_of line cursor (Some l) = l.top + line
start_of line cursor None = cursor

-- the open paragraph's number
abbrev pub number_in : Option Paragraph → Option ℕ
number_in (Some p) = Some p.number
number_in None = None
