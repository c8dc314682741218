-- What the lines of a sheet file ask for: which calls, on which lines, and the first fault that the lines have of
-- themselves, whatever the calls are answered. Assumes nothing.
--     Setting              what the items of a file are read against: the sheet's width, the advances of bytes, the shapes
--                          that the file names, and how many records and cells there are for the words of a text
--     Planned              a call, and the line that asks for it
--     Items                the calls of some items, and the fault of the line that ends them early, if there is one
--     Para                 a paragraph: the line that opens it, its margins, the sides that it clears, and its items
--     Plan                 the size of the sheet, the paragraphs, and the fault of a line outside of them, if there is one
--     items_plan S k n ls    the next k lines of ls, the first of which is line n, as items
--     paras_plan S k n ls    the lines ls as k paragraphs, with nothing behind them
--     size_said s            the size that the line s says
--     file_plan ..           a whole file
-- What stands in a plan behind a paragraph with a fault of its own is never looked at.
use Rattle.std.specs.Prelude.{ℕ, zero, suc, ◌+◌, ◌-◌, cond, List, [], ◌∷◌, ◌++◌, length, drop, Some, None, Ok, Err, Option, Result, nat_lt}
use Rattle.fault_lines.specs.Locations.{at_line}
use Rattle.lexer.specs.declared.faults.Fault.{Fault}
use Rattle.lexer.specs.Lines.{FileLine, file_lines}
use Rattle.lines.specs.declared.headings.SheetLine.{SheetLine}
use Rattle.lines.specs.declared.paragraphs.ParaLine.{ParaLine}
use Rattle.lines.specs.Counts.{shapes_form, paragraphs_form}
use Rattle.lines.specs.Headings.{sheet_form}
use Rattle.lines.specs.Paragraphs.{para_form}
use Rattle.lines.specs.Flights.{steps_form}
use Rattle.places.specs.declared.parts.Span.{Span}
use Rattle.places.specs.Bands.{span}
use Rattle.rules.specs.declared.refusals.Refusal.{Refusal}
use Rattle.rules.specs.declared.refusals.Refusal.TheVariants.{NoShape}
use Rattle.rules.specs.Account.{Size}
use Rattle.rules.specs.Runs.{Call}
use Rattle.scales.specs.Headings.{metric_form}
use Rattle.scales.specs.Scales.{family_advances}
use Rattle.shapes.specs.declared.sides.Clear.{Clear}
use Rattle.shapes.specs.Form.{Form}
use Rattle.shapes.specs.Staircase.{make_stairs}
use Rattle.sheet.specs.declared.sizes.SheetSize.{SheetSize}
use Rattle.sheet.specs.Fresh.{new_refusal, new_size}
use Rattle.text.specs.declared.faults.TextFault.TheVariants.{Metrics}
use Rattle.items.specs.declared.faults.FileFault.{FileFault}
use Rattle.items.specs.declared.faults.FileFault.TheVariants.{Form as BadForm, Extent, Long, Measuring, Refused}
use Rattle.items.specs.Faults.{Located, setback}
use Rattle.items.specs.Onward.{onward}
use Rattle.items.specs.Items.{item_call}
use Rattle.items.specs.Shelves.{most_shapes}

pub record Setting : Type 0 where
  pub width : ℕ
  pub advances : ℕ → ℕ
  pub shapes : List Form
  pub records : ℕ
  pub cells : ℕ

pub record Planned : Type 0 where
  pub line : ℕ
  pub call : Call

pub record Items : Type 0 where
  pub calls : List Planned
  pub stop : Option Located

pub record Para : Type 0 where
  pub line : ℕ
  pub margins : Span
  pub clear : Clear
  pub items : Items

pub record Paras : Type 0 where
  pub paras : List Para
  pub stop : Option Located

pub record Plan : Type 0 where
  pub size : Size
  pub body : Paras

-- The greatest numbers of paragraphs, of items of a paragraph, and of bytes

abbrev pub most_paragraphs : ℕ
most_paragraphs = 256

abbrev pub most_items : ℕ
most_items = 64

abbrev pub longest_file : ℕ
longest_file = 32768

-- One line

-- the first of the lines ls, which is line n, read by f, and the lines behind it
abbrev pub first_line : {A : Type 0} → ℕ → (FileLine → Result A FileFault) → List FileLine → Result (A × List FileLine) Located
first_line n f [] = Err (at_line n Extent)
first_line n f (l ∷ ls) = onward (at_line n) (f l) (λ a. Ok (a, ls))

-- one step after another, up to the first fault
abbrev pub then : {A B : Type 0} → Result A Located → (A → Result B Located) → Result B Located
then (Ok a) g = g a
then (Err x) g = Err x

abbrev pub formed : {A : Type 0} → Result A Fault → Result A FileFault
formed (Ok a) = Ok a
formed (Err f) = Err (BadForm f)

-- Items

abbrev pub planned : ℕ → Call → Planned
planned n c = record { line = n; call = c }

abbrev pub no_items : Option Located → Items
no_items o = record { calls = []; stop = o }

-- what the item on line n asks for, and then the others
abbrev pub with_item : ℕ → Result Call FileFault → Items → Items
with_item n (Ok c) rest = record { calls = planned n c ∷ rest.calls; stop = rest.stop }
with_item n (Err f) rest = no_items (Some (at_line n f))

abbrev pub item_of : Setting → FileLine → Result Call FileFault
item_of S l = item_call S.advances S.shapes S.records S.cells l

unfoldable pub items_plan : Setting → ℕ → ℕ → List FileLine → Items
items_plan S zero n ls = no_items None
items_plan S (suc k) n [] = no_items (Some (at_line n Extent))
items_plan S (suc k) n (l ∷ ls) = with_item n (item_of S l) (items_plan S k (n + 1) ls)

-- Paragraphs

-- insets from the sheet's edges; the right one may be more than the sheet is wide
abbrev pub margins_of : ℕ → ParaLine → Span
margins_of width h = span h.left (width - h.right)

abbrev pub para_of : Setting → ℕ → ParaLine → List FileLine → Para
para_of S n h ls = record { line = n; margins = margins_of S.width h; clear = h.clear; items = items_plan S h.items (n + 1) ls }

abbrev pub no_paras : Option Located → Paras
no_paras o = record { paras = []; stop = o }

abbrev pub with_para : Para → Paras → Paras
with_para P rest = record { paras = P ∷ rest.paras; stop = rest.stop }

abbrev pub heading_of : FileLine → Result ParaLine FileFault
heading_of l = formed (para_form most_items l)

-- the paragraph that the line n opens, and then the others, which begin behind its items
abbrev pub headed : Setting → ℕ → Result (ParaLine × List FileLine) Located → (ℕ → List FileLine → Paras) → Paras
headed S n (Ok h) rest = with_para (para_of S n h.0 h.1) (rest (n + 1 + h.0.items) (drop h.0.items h.1))
headed S n (Err x) rest = no_paras (Some x)

-- a line behind the last that is wanted
abbrev pub surplus : ℕ → List FileLine → Option Located
surplus n [] = None
surplus n (l ∷ ls) = Some (at_line n Extent)

unfoldable pub paras_plan : Setting → ℕ → ℕ → List FileLine → Paras
paras_plan S zero n ls = no_paras (surplus n ls)
paras_plan S (suc k) n ls = headed S n (first_line n heading_of ls) (paras_plan S k)

-- What comes before the paragraphs

-- a sheet of this size, unless it cannot be made over so many cells
abbrev pub unless : Option Refusal → SheetSize → Result SheetSize FileFault
unless None z = Ok z
unless (Some e) z = Err (Refused (setback e 0))

abbrev pub size_said : SheetLine → SheetSize
size_said s = record { width = s.width; height = s.height; line = s.line }

abbrev pub sheet_of : ℕ → FileLine → Result SheetSize FileFault
sheet_of cells l = onward BadForm (sheet_form l) (λ s. unless (new_refusal (size_said s) cells) (size_said s))

abbrev pub or_unfit : Option (ℕ → ℕ) → Result (ℕ → ℕ) FileFault
or_unfit (Some adv) = Ok adv
or_unfit None = Err (Measuring Metrics)

abbrev pub metric_of : FileLine → Result (ℕ → ℕ) FileFault
metric_of l = onward BadForm (metric_form l) (λ m. or_unfit (family_advances m.family m.number))

abbrev pub or_none : Option Form → Result Form FileFault
or_none (Some f) = Ok f
or_none None = Err (Refused (setback NoShape 0))

abbrev pub stairs_of : FileLine → Result Form FileFault
stairs_of l = onward BadForm (steps_form l) (λ s. or_none (make_stairs s.width s.steps))

-- the shapes fs, and then those of the next k lines
unfoldable pub shapes_plan : ℕ → ℕ → List FileLine → List Form → Result (List Form) Located
shapes_plan zero n ls fs = Ok fs
shapes_plan (suc k) n ls fs = then (first_line n stairs_of ls) (λ p. shapes_plan k (n + 1) p.1 (fs ++ (p.0 ∷ [])))

-- the paragraphs of a file: what they are read against, how many there are, and the lines, the first of which is line `line`
pub record Body : Type 0 where
  pub setting : Setting
  pub count : ℕ
  pub line : ℕ
  pub rest : List FileLine

abbrev pub shapes_count : FileLine → Result ℕ FileFault
shapes_count l = formed (shapes_form most_shapes l)

abbrev pub paras_count : FileLine → Result ℕ FileFault
paras_count l = formed (paragraphs_form most_paragraphs l)

-- the lines from line 2 on, of a sheet of this width
abbrev pub body_of : ℕ → ℕ → ℕ → List FileLine → Result Body Located
body_of width records cells ls =
    then (first_line 2 metric_of ls)
    (λ a. then (first_line 3 shapes_count a.1)
    (λ k. then (shapes_plan k.0 4 k.1 [])
    (λ fs. then (first_line (4 + k.0) paras_count (drop k.0 k.1))
    (λ m. Ok (record {
      setting = record { width = width; advances = a.0; shapes = fs; records = records; cells = cells };
      count = m.0;
      line = 5 + k.0;
      rest = m.1;
    })))))

abbrev pub body_plan : Result Body Located → Paras
body_plan (Ok b) = paras_plan b.setting b.count b.line b.rest
body_plan (Err x) = no_paras (Some x)

-- a size of which there is no sheet, and a list of so many places
abbrev pub no_size : ℕ → ℕ → Size
no_size cells places = new_size (record { width = 0; height = 0; line = 0 }) cells places

abbrev pub stopped : Size → Located → Plan
stopped z x = record { size = z; body = no_paras (Some x) }

-- where the first line is read as r, and the lines ls stand behind it
abbrev pub sheeted : Result SheetSize FileFault → List FileLine → ℕ → ℕ → ℕ → ℕ → Plan
sheeted (Ok z) ls cells records runs places = record { size = new_size z cells places; body = body_plan (body_of z.width records runs ls) }
sheeted (Err f) ls cells records runs places = stopped (no_size cells places) (at_line 1 f)

abbrev pub lines_plan : List FileLine → ℕ → ℕ → ℕ → ℕ → Plan
lines_plan [] cells records runs places = stopped (no_size cells places) (at_line 1 Extent)
lines_plan (l ∷ ls) cells records runs places = sheeted (sheet_of cells l) ls cells records runs places

-- over so many cells for the rows, records and cells for the words of a text, and places of the list
abbrev pub file_plan : List ℕ → ℕ → ℕ → ℕ → ℕ → Plan
file_plan file cells records runs places =
    cond (nat_lt longest_file (length file)) (stopped (no_size cells places) (at_line 0 Long)) (lines_plan (file_lines file) cells records runs places)
