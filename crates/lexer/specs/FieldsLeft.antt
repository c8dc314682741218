-- What a cursor over a line's fields has at hand, and how it moves. Assumes nothing.
--     seen r             the bytes that a reference r to some shows
--     field_at s         the field where the cursor s stands
--     read_at s w c      its worth by w, and c the cause where it has none
--     ended_at s         that the line has ended there
--     Stepped s t        t is the cursor s, moved past the field at hand
use Rattle.std.specs.Prelude.{◌≡◌, ℕ, List, Some, None, Option, Result}
use Rattle.std.specs.Borrow.{Bor}
use Rattle.lexer.specs.declared.faults.Cause.{Cause}
use Rattle.lexer.specs.declared.faults.Fault.{Fault}
use Rattle.lexer.specs.declared.fields.Fields.{Fields}
use Rattle.lexer.specs.Fields.{field, next}
use Rattle.lexer.specs.Forms.{field_kind, reading, ending}

abbrev pub seen : Option (Bor (List ℕ)) → Option (List ℕ)
seen None = None
seen (Some r) = Some r.now

abbrev pub field_at : Fields → Option (List ℕ)
field_at s = field s.line.bytes.now s.place

abbrev pub read_at : {A : Type 0} → Fields → (List ℕ → Option A) → Cause → Result A Fault
read_at s w c = reading (field_kind w c) s.line.bytes.now s.place

abbrev pub ended_at : Fields → Result (Unit {0}) Fault
ended_at s = ending s.line.ended s.line.bytes.now s.place

pub record Stepped (s t : Fields) : Type 0 where
  pub line : t.line ≡ s.line
  pub place : t.place ≡ next s.line.bytes.now s.place
