-- What the definitions of this crate amount to. Assumes nothing.
--     InStep ss i k        row k lies in step i
--     RowHasItsStep ss k   the extent of row k, by the step that it lies in
--     RowsHaveTheirSteps   so it is with every row of any steps
--     MadeAreReal          what is made is a shape, and no box that is one is refused
use Rattle.std.specs.Prelude.{◌≡◌, ℕ, ◌+◌, ◌<◌, ◌≤◌, List, length, take, Some, None, slice_index_or}
use Rattle.shapes.specs.declared.stairs.Step.{Step}
use Rattle.shapes.specs.Form.{Form, Real}
use Rattle.shapes.specs.Box.{box_form, make_box}
use Rattle.shapes.specs.Staircase.{rows_of, extent_at, make_stairs}

-- what slice_index_or answers past the last step
abbrev pub no_step : Step
no_step = record { rows = 0; extent = 0 }

-- the steps before step i end at or above row k, and step i ends below it
pub record InStep (ss : List Step) (i k : ℕ) : Type 0 where
  pub there : i < length ss
  pub begun : rows_of (take i ss) ≤ k
  pub ended : k < rows_of (take i ss) + (slice_index_or ss i no_step).rows

-- a row above the bottom lies in exactly one step and has its extent; any other row has extent 0
pub record RowHasItsStep (ss : List Step) (k : ℕ) : Type 0 where
  pub some : k < rows_of ss → (i : ℕ) × InStep ss i k
  pub one : (i j : ℕ) → InStep ss i k → InStep ss j k → i ≡ j
  pub has : (i : ℕ) → InStep ss i k → extent_at ss k ≡ (slice_index_or ss i no_step).extent
  pub past : rows_of ss ≤ k → extent_at ss k ≡ 0

abbrev pub RowsHaveTheirSteps : Type 0
RowsHaveTheirSteps = (ss : List Step) (k : ℕ) → RowHasItsStep ss k

-- a constructor makes nothing but shapes, and refuses no box that is one
pub record MadeAreReal : Type 0 where
  pub boxes : (w p : ℕ) (f : Form) → make_box w p ≡ Some f → Real f
  pub stairs : (w : ℕ) (ss : List Step) (f : Form) → make_stairs w ss ≡ Some f → Real f
  pub refused : (w p : ℕ) → make_box w p ≡ None → Real (box_form w p) → ⊥
