-- The account of a sheet: what the calls so far amount to. It is kept from their arguments alone. Assumes nothing.
--     Size            what a new sheet is given: its width, height, line height, and the places of its list
--     Account         panels, lines, boxes, cursor, paragraphs and the open line after some calls
--     scene A p       what a panel or a word of the paragraph p is judged against
--     early_..        the refusals of a call that are judged before its work, in their order
--     with_..         the account after a call that is done
--     open_line z A   the box that the open line would have if it closed now, if there is one
use Rattle.std.specs.Prelude.{ℕ, ◌+◌, max, Bool, false, not, ◌&&◌, List, [], ◌∷◌, length, is_some, Some, None, Option, ◌==◌, nat_le, nat_lt}
use Rattle.shapes.specs.declared.sides.Clear.{Clear}
use Rattle.places.specs.declared.parts.Span.{Span}
use Rattle.places.specs.declared.parts.Line.{Line}
use Rattle.places.specs.Panels.{Placed}
use Rattle.places.specs.Bands.{room, band}
use Rattle.places.specs.Permitted.{Rows, Scene, Wanted, put}
use Rattle.places.specs.Tried.{bottoms}
use Rattle.rules.specs.declared.boxes.BoxRecord.{BoxRecord}
use Rattle.rules.specs.declared.boxes.BoxRecord.TheVariants as B
use Rattle.rules.specs.declared.boxes.LineBox.{LineBox}
use Rattle.rules.specs.declared.paragraphs.Paragraph.{Paragraph}
use Rattle.rules.specs.declared.refusals.Refusal.{Refusal}
use Rattle.rules.specs.declared.refusals.Refusal.TheVariants.{NoParagraph, AlreadyOpen, WrongSlip, BadMargins, WidePanel, ListFull, ManyParagraphs}
use Rattle.rules.specs.Refusals.{first}

pub record Size : Type 0 where
  pub width : ℕ
  pub height : ℕ
  pub line : ℕ
  pub places : ℕ

abbrev pub rows_of : Size → Rows
rows_of z = record { height = z.height; line = z.line }

-- Each list has the newest first.
pub record Account : Type 0 where
  -- the panels that stand
  pub placed : List Placed
  -- the top rows of all lines that were opened
  pub lines : List ℕ
  -- the list of boxes: panels, and lines from when they close
  pub boxes : List BoxRecord
  -- the first row for a line where none is open
  pub cursor : ℕ
  -- how many paragraphs were opened
  pub count : ℕ
  pub para : Option Paragraph
  pub current : Option Line

abbrev pub fresh : Account
fresh = record { placed = []; lines = []; boxes = []; cursor = 0; count = 0; para = None; current = None }

abbrev pub scene : Account → Paragraph → Scene
scene A p = record { placed = A.placed; lines = A.lines; margins = p.margins; top = p.top; current = A.current }

-- Refusals

abbrev pub closed : Account → Bool
closed A = not (is_some A.para)

-- an open line has a place of the list reserved
abbrev pub reserved : Option Line → ℕ
reserved (Some l) = 1
reserved None = 0

abbrev pub full : Size → Account → Bool
full z A = nat_le z.places (length A.boxes + reserved A.current)

-- how wide the margins are, 0 where no paragraph is open
abbrev pub between : Option Paragraph → ℕ
between (Some p) = room p.margins
between None = 0

abbrev pub numbered : Option Paragraph → ℕ → Bool
numbered (Some p) n = n == p.number
numbered None n = false

abbrev pub most_paragraphs : ℕ
most_paragraphs = 65535

abbrev pub early_open : Size → Account → Span → Option Refusal
early_open z A m = first ((is_some A.para, AlreadyOpen) ∷ (nat_le most_paragraphs A.count, ManyParagraphs) ∷ (not (nat_lt m.from m.to && nat_le m.to z.width), BadMargins) ∷ [])

abbrev pub early_panel : Size → Account → Wanted → Option Refusal
early_panel z A o = first ((closed A, NoParagraph) ∷ (nat_lt (between A.para) o.form.wide, WidePanel) ∷ (full z A, ListFull) ∷ [])

abbrev pub early_end : Account → ℕ → Option Refusal
early_end A n = first ((closed A, NoParagraph) ∷ (not (numbered A.para n), WrongSlip) ∷ [])

-- What a call leaves

-- the greatest of the cursor and the bottoms of the panels on the cleared sides
abbrev pub opening_top : Account → Clear → ℕ
opening_top A c = max A.cursor (bottoms c A.placed)

abbrev pub with_open : Account → Span → Clear → Account
with_open A m c = record {
  placed = A.placed;
  lines = A.lines;
  boxes = A.boxes;
  cursor = opening_top A c;
  count = A.count + 1;
  para = Some (record { number = A.count + 1; margins = m; top = opening_top A c });
  current = A.current;
}

abbrev pub panel_box : Wanted → ℕ → ℕ → BoxRecord
panel_box o x y = B.Panel (record { side = o.side; x = x; y = y; width = o.form.wide; height = o.form.tall })

abbrev pub with_panel : Account → Wanted → ℕ → ℕ → Account
with_panel A o x y = record {
  placed = put o x y ∷ A.placed;
  lines = A.lines;
  boxes = panel_box o x y ∷ A.boxes;
  cursor = A.cursor;
  count = A.count;
  para = A.para;
  current = A.current;
}

-- the box that an open line would have if it closed now: it begins at its band's left edge as that is now
abbrev pub box_now : Size → Account → Paragraph → Line → LineBox
box_now z A p l = record { x = (band p.margins A.placed l.top z.line).from; y = l.top; width = l.used; words = l.words }

abbrev pub line_box : Size → Account → Paragraph → Line → BoxRecord
line_box z A p l = B.Line (box_now z A p l)

-- that of the open line, if there is one
abbrev pub shown_line : Size → Account → Option Paragraph → Option Line → Option LineBox
shown_line z A (Some p) (Some l) = Some (box_now z A p l)
shown_line z A (Some p) None = None
shown_line z A None o = None

abbrev pub open_line : Size → Account → Option LineBox
open_line z A = shown_line z A A.para A.current

abbrev pub shut_boxes : Size → Account → Paragraph → Option Line → List BoxRecord
shut_boxes z A p (Some l) = line_box z A p l ∷ A.boxes
shut_boxes z A p None = A.boxes

-- the first row open to a new line: below the open one, or else from the cursor on
abbrev pub below : Size → ℕ → Option Line → ℕ
below z cursor (Some l) = l.top + z.line
below z cursor None = cursor

abbrev pub start_row : Size → Account → ℕ
start_row z A = below z A.cursor A.current

-- the open line, if any, closes, and the paragraph ends
abbrev pub with_end : Size → Account → Paragraph → Account
with_end z A p = record {
  placed = A.placed;
  lines = A.lines;
  boxes = shut_boxes z A p A.current;
  cursor = start_row z A;
  count = A.count;
  para = None;
  current = None;
}
