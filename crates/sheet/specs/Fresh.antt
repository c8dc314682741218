-- What a new sheet is. Assumes nothing.
--     new_refusal z n     why no sheet of this size can be made over n cells, if there is a reason
--     full_size z k       the size z, with a list of k places
--     new_size z n k      the size of the sheet that is made, with a list of k places; of a refused one, no rows
--     cells_used z n      how many cells it takes
--     Fresh .. s          s is that sheet: no calls came to it, and the rest of the memory is as it was
use Rattle.std.specs.Prelude.{◌≡◌, ℕ, ◌*◌, Bool, not, ◌&&◌, List, [], ◌∷◌, length, drop, Some, None, Option, nat_le, nat_lt}
use Rattle.segment_tree.specs.LeafCount.{leaf_count}
use Rattle.shapes.specs.Form.{most_units}
use Rattle.reaches.specs.declared.reach.Reach.{Reach}
use Rattle.rules.specs.declared.boxes.BoxRecord.{BoxRecord}
use Rattle.rules.specs.declared.refusals.Refusal.{Refusal}
use Rattle.rules.specs.declared.refusals.Refusal.TheVariants.{BadSize, FewCells}
use Rattle.rules.specs.Refusals.{first}
use Rattle.rules.specs.Account.{Size}
use Rattle.sheet.specs.declared.sizes.SheetSize.{SheetSize}
use Rattle.sheet.specs.declared.store.Store.{Store}
use Rattle.rows.specs.declared.Rows.{Rows}
use Rattle.sheet.specs.View.{View, Kept}
use Rattle.sheet.specs.Stores.{view}

-- the greatest line height
abbrev pub most_line : ℕ
most_line = 255

abbrev pub within : ℕ → ℕ → Bool
within n most = nat_le 1 n && nat_le n most

abbrev pub new_refusal : SheetSize → ℕ → Option Refusal
new_refusal z n = first ((not (within z.width most_units && (within z.height most_units && within z.line most_line)), BadSize) ∷ (nat_lt n (2 * leaf_count z.height), FewCells) ∷ [])

abbrev pub full_size : SheetSize → ℕ → Size
full_size z k = record { width = z.width; height = z.height; line = z.line; places = k }

abbrev pub size_of : Option Refusal → SheetSize → ℕ → Size
size_of (Some e) z k = record { width = 0; height = 0; line = 1; places = k }
size_of None z k = full_size z k

abbrev pub new_size : SheetSize → ℕ → ℕ → Size
new_size z n k = size_of (new_refusal z n) z k

abbrev pub used_of : Option Refusal → ℕ → ℕ
used_of (Some e) H = 0
used_of None H = 2 * leaf_count H

abbrev pub cells_used : SheetSize → ℕ → ℕ
cells_used z n = used_of (new_refusal z n) z.height

-- the fields of a sheet to which no call came
abbrev pub empty_view : Rows → List BoxRecord → ℕ → View
empty_view rows list line = record {
  rows = rows;
  recs = list;
  line = line;
  used = 0;
  top = 0;
  bottoms = record { left = 0; right = 0 };
  cursor = 0;
  count = 0;
  para = None;
  current = None;
}

pub record Fresh (z : SheetSize) (cells : List Reach) (list : List BoxRecord) (s : Store) : Type 0 where
  pub kept : Kept (new_size z (length cells) (length list)) [] (view s)
  pub list_is : s.list.now ≡ list
  pub rest : drop (cells_used z (length cells)) s.rows.tree.cells.now ≡ drop (cells_used z (length cells)) cells
