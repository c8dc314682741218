-- The worked examples, as one table: calls on a new sheet, their answers, and the boxes in list order. Assumes nothing.
--     Example       a sheet's calls, with the answers and the list of boxes that they come to
--     TableStands   each example of the table comes to what it says
use Rattle.std.specs.Prelude.{◌≡◌, ℕ, ◌*◌, List, [], ◌∷◌, reverse, Some, None}
use Rattle.shapes.specs.declared.sides.Side.{Side}
use Rattle.shapes.specs.declared.sides.Side.TheVariants.{Left, Right}
use Rattle.shapes.specs.declared.sides.Clear.{Clear}
use Rattle.shapes.specs.declared.sides.Clear.TheVariants as C
use Rattle.shapes.specs.Box.{box_form}
use Rattle.shapes.specs.Staircase.{stairs_form}
use Rattle.places.specs.Bands.{span}
use Rattle.rules.specs.declared.boxes.BoxRecord.{BoxRecord}
use Rattle.rules.specs.declared.boxes.BoxRecord.TheVariants as B
use Rattle.rules.specs.declared.refusals.Refusal.TheVariants.{WideWord, ListFull, NoPlace}
use Rattle.rules.specs.Account.{Size, fresh}
use Rattle.rules.specs.Runs.{Call, Answer, opens, flows, panels, ends, opened, flowed, stands, ended, refused}
use Rattle.rules.specs.Computed.{replies}

pub record Example : Type 0 where
  pub places : ℕ
  pub calls : List Call
  pub answers : List Answer
  pub boxes : List BoxRecord

-- 100 units by 60 rows, lines of 10 rows
abbrev pub sheet : ℕ → Size
sheet n = record { width = 100; height = 60; line = 10; places = n }

abbrev pub para : Call
para = opens (span 0 100) C.None

abbrev pub box : Side → Clear → ℕ → ℕ → Call
box s c w h = panels (record { side = s; clear = c; form = box_form w h })

-- words by their letters, in cells of 5 units
abbrev pub cells : List ℕ → List ℕ
cells [] = []
cells (n ∷ ns) = 5 * n ∷ cells ns

abbrev pub words : List ℕ → Call
words ns = flows (cells ns) 5 0

abbrev pub panel : Side → ℕ → ℕ → ℕ → ℕ → BoxRecord
panel s x y w h = B.Panel (record { side = s; x = x; y = y; width = w; height = h })

abbrev pub line : ℕ → ℕ → ℕ → ℕ → BoxRecord
line x y w n = B.Line (record { x = x; y = y; width = w; words = n })

-- two steps of ten rows, 30 and 15 units wide
abbrev pub stairs : Call
stairs = panels (record { side = Left; clear = C.None; form = stairs_form 30 (record { rows = 10; extent = 30 } ∷ record { rows = 10; extent = 15 } ∷ []) })

abbrev pub example : ℕ → List Call → List Answer → List BoxRecord → Example
example n cs qs bs = record { places = n; calls = cs; answers = qs; boxes = bs }

abbrev pub table : List Example
table =
    -- beside the first panel where the widths allow it, else below it
    example 9 (para ∷ box Left C.None 60 10 ∷ box Left C.None 40 10 ∷ [])
    (opened 1 ∷ stands 0 0 ∷ stands 60 0 ∷ []) (panel Left 0 0 60 10 ∷ panel Left 60 0 40 10 ∷ [])
    ∷ example 9 (para ∷ box Left C.None 60 10 ∷ box Left C.None 41 10 ∷ [])
    (opened 1 ∷ stands 0 0 ∷ stands 0 10 ∷ []) (panel Left 0 0 60 10 ∷ panel Left 0 10 41 10 ∷ [])
    -- the third does not climb above the second
    ∷ example 9 (para ∷ box Left C.None 60 10 ∷ box Left C.None 50 10 ∷ box Left C.None 40 10 ∷ [])
    (opened 1 ∷ stands 0 0 ∷ stands 0 10 ∷ stands 50 10 ∷ []) (panel Left 0 0 60 10 ∷ panel Left 0 10 50 10 ∷ panel Left 50 10 40 10 ∷ [])
    -- left and right
    ∷ example 9 (para ∷ box Left C.None 60 10 ∷ box Right C.None 40 10 ∷ [])
    (opened 1 ∷ stands 0 0 ∷ stands 60 0 ∷ []) (panel Left 0 0 60 10 ∷ panel Right 60 0 40 10 ∷ [])
    ∷ example 9 (para ∷ box Left C.None 60 10 ∷ box Right C.None 41 10 ∷ [])
    (opened 1 ∷ stands 0 0 ∷ stands 59 10 ∷ []) (panel Left 0 0 60 10 ∷ panel Right 59 10 41 10 ∷ [])
    -- clear
    ∷ example 9 (para ∷ box Left C.None 20 30 ∷ box Right C.None 20 10 ∷ box Left C.Right 10 5 ∷ [])
    (opened 1 ∷ stands 0 0 ∷ stands 80 0 ∷ stands 20 10 ∷ []) (panel Left 0 0 20 30 ∷ panel Right 80 0 20 10 ∷ panel Left 20 10 10 5 ∷ [])
    -- a line goes down row by row, and looks at all its rows
    ∷ example 9 (para ∷ box Left C.None 60 5 ∷ words (8 ∷ []) ∷ ends 1 ∷ [])
    (opened 1 ∷ stands 0 0 ∷ flowed 1 None ∷ ended ∷ []) (panel Left 0 0 60 5 ∷ line 60 0 40 1 ∷ [])
    ∷ example 9 (para ∷ box Left C.None 60 5 ∷ words (9 ∷ []) ∷ ends 1 ∷ [])
    (opened 1 ∷ stands 0 0 ∷ flowed 1 None ∷ ended ∷ []) (panel Left 0 0 60 5 ∷ line 0 5 45 1 ∷ [])
    ∷ example 9 (para ∷ box Left C.None 60 5 ∷ box Left C.None 70 10 ∷ words (6 ∷ []) ∷ ends 1 ∷ [])
    (opened 1 ∷ stands 0 0 ∷ stands 0 5 ∷ flowed 1 None ∷ ended ∷ []) (panel Left 0 0 60 5 ∷ panel Left 0 5 70 10 ∷ line 70 0 30 1 ∷ [])
    ∷ example 9 (para ∷ box Left C.None 60 5 ∷ box Left C.None 70 10 ∷ words (7 ∷ []) ∷ ends 1 ∷ [])
    (opened 1 ∷ stands 0 0 ∷ stands 0 5 ∷ flowed 1 None ∷ ended ∷ []) (panel Left 0 0 60 5 ∷ panel Left 0 5 70 10 ∷ line 0 15 35 1 ∷ [])
    -- a panel short of width beside the open line goes down row by row, too
    ∷ example 9 (para ∷ box Left C.None 60 5 ∷ words (4 ∷ []) ∷ box Left C.None 30 10 ∷ ends 1 ∷ [])
    (opened 1 ∷ stands 0 0 ∷ flowed 1 None ∷ stands 0 5 ∷ ended ∷ []) (panel Left 0 0 60 5 ∷ panel Left 0 5 30 10 ∷ line 60 0 20 1 ∷ [])
    -- the sheet's height, the margins' width
    ∷ example 9 (para ∷ box Left C.None 10 60 ∷ []) (opened 1 ∷ stands 0 0 ∷ []) (panel Left 0 0 10 60 ∷ [])
    ∷ example 9 (para ∷ box Left C.None 10 61 ∷ []) (opened 1 ∷ refused NoPlace ∷ []) []
    ∷ example 9 (para ∷ words (20 ∷ []) ∷ ends 1 ∷ []) (opened 1 ∷ flowed 1 None ∷ ended ∷ []) (line 0 0 100 1 ∷ [])
    ∷ example 9 (para ∷ words (21 ∷ []) ∷ ends 1 ∷ []) (opened 1 ∷ flowed 0 (Some WideWord) ∷ ended ∷ []) []
    -- an open line has its place of the list reserved
    ∷ example 1 (para ∷ words (3 ∷ []) ∷ box Left C.None 10 10 ∷ ends 1 ∷ [])
    (opened 1 ∷ flowed 1 None ∷ refused ListFull ∷ ended ∷ []) (line 0 0 15 1 ∷ [])
    -- a staircase met in mid-line, and the text round it
    ∷ example 9 (para ∷ words (3 ∷ 3 ∷ []) ∷ stairs ∷ box Right C.None 40 15 ∷ words (5 ∷ 4 ∷ 4 ∷ 3 ∷ []) ∷ ends 1 ∷ [])
    (opened 1 ∷ flowed 2 None ∷ stands 0 0 ∷ stands 60 10 ∷ flowed 4 None ∷ ended ∷ [])
    (panel Left 0 0 30 20 ∷ panel Right 60 10 40 15 ∷ line 30 0 65 3 ∷ line 15 10 45 2 ∷ line 0 20 15 1 ∷ [])
    ∷ []

abbrev pub Stands : Example → Type 0
Stands e = ((replies (sheet e.places) e.calls fresh).answers ≡ e.answers) × (reverse (replies (sheet e.places) e.calls fresh).account.boxes ≡ e.boxes)

abbrev pub EachStands : List Example → Type 0
EachStands [] = Unit {0}
EachStands (e ∷ es) = Stands e × EachStands es

abbrev pub TableStands : Type 0
TableStands = EachStands table
