-- One step after another, up to the first fault. Assumes nothing.
--     onward f r g   the fault of r, told by f, or what g makes of its value
use Rattle.std.specs.Prelude.{Ok, Err, Result}

abbrev pub onward : {A B E F : Type 0} → (E → F) → Result A E → (A → Result B F) → Result B F
onward f (Ok a) g = g a
onward f (Err e) g = Err (f e)
