-- The staircase: steps from the top down, each of some rows and one extent. Assumes nothing.
--     rows_of ss          the rows of all the steps ss
--     extent_at ss k      the extent of row k: that of its step, and 0 past the last
--     stairs_form w ss    the staircase of width w and steps ss
--     stairs_fit w ss     w and ss keep every limit
--     make_stairs w ss    that staircase where they do, else None
use Rattle.std.specs.Prelude.{ℕ, ◌-◌, Bool, cond, ◌&&◌, List, [], ◌∷◌, length, Some, None, sum_by, Option, nat_le, nat_lt}
use Rattle.std.specs.List.{list_all}
use Rattle.shapes.specs.declared.stairs.Step.{Step}
use Rattle.shapes.specs.Form.{Form}
use Rattle.shapes.specs.Made.{in_range}

-- the most steps of a staircase
abbrev pub most_steps : ℕ
most_steps = 16

abbrev pub rows_of : List Step → ℕ
rows_of ss = sum_by (λ s. s.rows) ss

abbrev pub extent_at : List Step → ℕ → ℕ
extent_at [] k = 0
extent_at (s ∷ ss) k = cond (nat_lt k s.rows) s.extent (extent_at ss (k - s.rows))

abbrev pub stairs_form : ℕ → List Step → Form
stairs_form w ss = record { wide = w; tall = rows_of ss; extent = extent_at ss }

-- 1 to 16 steps
abbrev pub count_fits : List Step → Bool
count_fits ss = nat_le 1 (length ss) && nat_le (length ss) most_steps

-- a step has a row or more, and reaches no further in than the width
abbrev pub step_fits : ℕ → Step → Bool
step_fits w s = nat_le 1 s.rows && nat_le s.extent w

abbrev pub steps_fit : ℕ → List Step → Bool
steps_fit w ss = list_all (step_fits w) ss

abbrev pub stairs_fit : ℕ → List Step → Bool
stairs_fit w ss = in_range w && (count_fits ss && (steps_fit w ss && in_range (rows_of ss)))

abbrev pub make_stairs : ℕ → List Step → Option Form
make_stairs w ss = cond (stairs_fit w ss) (Some (stairs_form w ss)) None
