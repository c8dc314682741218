-- A fault on its line. Assumes nothing.
--     at_line n f   the fault f on line n
--     on_line n r   r, with its fault told to be on line n
use Rattle.std.specs.Prelude.{ℕ, Ok, Err, Result}
use Rattle.fault_lines.specs.declared.locations.Located.{Located}

abbrev pub at_line : {F : Type 0} → ℕ → F → Located F
at_line n f = record { line = n; fault = f }

abbrev pub on_line : {A F : Type 0} → ℕ → Result A F → Result A (Located F)
on_line n (Ok a) = Ok a
on_line n (Err f) = Err (at_line n f)
