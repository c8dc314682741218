-- What making a sheet of a size answers. Assumes nothing.
--     Makes z cells list r     r is a new sheet of the size z over these cells and this list, or says why there is none
--     Made z cells list s      no calls came to s, the list holds what it held, and so do the cells that s does not use
--     HandedBack .. u          u has the refusal, and the cells and the list hold what they held
use Rattle.std.specs.Prelude.{◌≡◌, ◌*◌, List, [], length, drop, Some, None, Ok, Err, Result}
use Rattle.segment_tree.specs.LeafCount.{leaf_count}
use Rattle.reaches.specs.declared.reach.Reach.{Reach}
use Rattle.rules.specs.declared.boxes.BoxRecord.{BoxRecord}
use Rattle.sheet.specs.declared.answers.Unmade.{Unmade}
use Rattle.sheet.specs.declared.sheet.Sheet.{Sheet}
use Rattle.sheet.specs.declared.sizes.SheetSize.{SheetSize}
use Rattle.sheet.specs.Fresh.{new_refusal, full_size}
use Rattle.sheet.specs.Sheets.{Past}

pub record Made (z : SheetSize) (cells : List Reach) (list : List BoxRecord) (s : Sheet) : Type 0 where
  pub sized : new_refusal z (length cells) ≡ None
  pub past : Past (full_size z (length list)) [] s
  pub list_is : s.store.list.now ≡ list
  pub rest : drop (2 * leaf_count z.height) s.store.rows.tree.cells.now ≡ drop (2 * leaf_count z.height) cells

pub record HandedBack (z : SheetSize) (cells : List Reach) (list : List BoxRecord) (u : Unmade) : Type 0 where
  pub why : new_refusal z (length cells) ≡ Some u.refusal
  pub cells_are : u.cells.now ≡ cells
  pub list_is : u.list.now ≡ list

abbrev pub Makes : SheetSize → List Reach → List BoxRecord → Result Sheet Unmade → Type 0
Makes z cells list (Ok s) = Made z cells list s
Makes z cells list (Err u) = HandedBack z cells list u
