-- What every account of a run has. Assumes nothing.
--     Orderly z A   its panels lie on the sheet, its open line stands in its open paragraph and holds its words, and its list has room
use Rattle.std.specs.Prelude.{◌≡◌, ◌+◌, ◌<◌, ◌≤◌, length, Some}
use Rattle.shapes.specs.Form.{Real}
use Rattle.places.specs.declared.parts.Line.{Line}
use Rattle.places.specs.Panels.{Placed, Among, bottom}
use Rattle.places.specs.Lines.{Wide}
use Rattle.rules.specs.declared.paragraphs.Paragraph.{Paragraph}
use Rattle.rules.specs.Account.{Size, rows_of, Account, scene, reserved, most_paragraphs}

-- a panel of a shape, with its box on the sheet
pub record OnSheet (z : Size) (q : Placed) : Type 0 where
  pub real : Real q.form
  pub right : q.x + q.form.wide ≤ z.width
  pub low : bottom q ≤ z.height

-- the open paragraph is the last that was opened, and its margins leave a unit of the sheet
pub record InMargins (z : Size) (A : Account) (p : Paragraph) : Type 0 where
  pub last : p.number ≡ A.count
  pub some : p.margins.from < p.margins.to
  pub right : p.margins.to ≤ z.width

-- the open line has a paragraph and a word, is one of the lines, ends on the sheet, and its band holds its words
pub record InBand (z : Size) (A : Account) (l : Line) : Type 0 where
  pub paragraph : Paragraph
  pub is_open : A.para ≡ Some paragraph
  pub listed : Among l.top A.lines
  pub some : 1 ≤ l.words
  pub low : l.top + z.line ≤ z.height
  pub wide : Wide (rows_of z) (scene A paragraph) l.top l.used

pub record Orderly (z : Size) (A : Account) : Type 0 where
  pub panels : (q : Placed) → Among q A.placed → OnSheet z q
  pub paragraph : (p : Paragraph) → A.para ≡ Some p → InMargins z A p
  pub line : (l : Line) → A.current ≡ Some l → InBand z A l
  pub numbers : A.count ≤ most_paragraphs
  pub listed : length A.boxes + reserved A.current ≤ z.places
