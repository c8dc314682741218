-- What a line means, field by field: a line's form is written `take .. take .. finish`. Assumes nothing.
--     fault c p               a refusal for the cause c at the offset p
--     some o e                the value of o, or the fault e where there is none
--     after r f               the fault of r, or what f makes of its value
--     FieldKind A             a kind of field: what bytes are worth, an A or nothing, and the cause where it is nothing
--     a_number                a number
--     number_within low high  a number from low to high
--     word w                  just the bytes w
--     reading k line p        the worth of the field at p; Field at p where it is missing, k's cause at p where it is worth nothing
--     take k line p rest      the field at p, and then rest of its worth and the next place
--     closing ended line      the line is ended, else Field at its length
--     ending ended line p     no field is left at p, else Field at p; and the line is ended
--     finish ended line p a   the line ends at p, and means a
use Rattle.std.specs.Prelude.{ℕ, Bool, cond, ◌&&◌, List, length, Some, None, Ok, Err, Option, Result, nat_le}
use Rattle.std.specs.Str.{bytes_eq}
use Rattle.lexer.specs.declared.faults.Cause.{Cause}
use Rattle.lexer.specs.declared.faults.Cause.TheVariants.{Keyword, Number, Field}
use Rattle.lexer.specs.declared.faults.Fault.{Fault}
use Rattle.lexer.specs.Fields.{field, next}
use Rattle.lexer.specs.Numerals.{numeral}

abbrev pub fault : Cause → ℕ → Fault
fault c p = record { cause = c; place = p }

abbrev pub some : {A : Type 0} → Option A → Fault → Result A Fault
some None e = Err e
some (Some a) e = Ok a

abbrev pub after : {A B : Type 0} → Result A Fault → (A → Result B Fault) → Result B Fault
after (Ok a) f = f a
after (Err e) f = Err e

pub record FieldKind (A : Type 0) : Type 0 where
  pub worth : List ℕ → Option A
  pub fails : Cause

abbrev pub field_kind : {A : Type 0} → (List ℕ → Option A) → Cause → FieldKind A
field_kind w c = record { worth = w; fails = c }

abbrev pub a_number : FieldKind ℕ
a_number = field_kind numeral Number

abbrev pub from_to : ℕ → ℕ → Option ℕ → Option ℕ
from_to low high None = None
from_to low high (Some n) = cond (nat_le low n && nat_le n high) (Some n) None

abbrev pub number_within : ℕ → ℕ → FieldKind ℕ
number_within low high = field_kind (λ bs. from_to low high (numeral bs)) Number

-- the value a where the bytes are w, else the other value: a choice of keywords is a chain of these
abbrev pub spelled : {A : Type 0} → List ℕ → A → Option A → List ℕ → Option A
spelled w a other bs = cond (bytes_eq bs w) (Some a) other

abbrev pub word : List ℕ → FieldKind (Unit {0})
word w = field_kind (spelled w tt None) Keyword

abbrev pub reading : {A : Type 0} → FieldKind A → List ℕ → ℕ → Result A Fault
reading k line p = after (some (field line p) (fault Field p)) (λ bs. some (k.worth bs) (fault k.fails p))

abbrev pub take : {A B : Type 0} → FieldKind A → List ℕ → ℕ → (A → ℕ → Result B Fault) → Result B Fault
take k line p rest = after (reading k line p) (λ a. rest a (next line p))

abbrev pub closing : Bool → List ℕ → Result (Unit {0}) Fault
closing ended line = cond ended (Ok tt) (Err (fault Field (length line)))

abbrev pub ending : Bool → List ℕ → ℕ → Result (Unit {0}) Fault
ending ended line p = cond (nat_le p (length line)) (Err (fault Field p)) (closing ended line)

abbrev pub finish : {A : Type 0} → Bool → List ℕ → ℕ → A → Result A Fault
finish ended line p a = after (ending ended line p) (λ _. Ok a)
