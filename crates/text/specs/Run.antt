-- A run of words on one line. Assumes nothing.
--     largest            what the two sums of a run are held at: the largest number of 32 bits
--     held_sum a b       the sum of a and b, held at that
--     SumsAreHeld        of numbers of 32 bits it is the sum, or the largest of them where the sum is past it
--     no_run             the run of no words
--     longer x y         the words of x and then those of y
--     width_of x space   the width of x on one line, with a space between each two of its words
--     has_room x room    whether that width is within the room
use Rattle.std.specs.Prelude.{◌≡◌, ℕ, ◌+◌, ◌-◌, ◌*◌, ◌≤◌, min, max, Bool, nat_le}
use Rattle.text.specs.declared.runs.Room.{Room}
use Rattle.text.specs.declared.runs.Run.{Run}

abbrev pub largest : ℕ
largest = 4294967295

-- The laws of a tree's elements are owed at every number, also past the largest, where min largest (a + b) is below a.
-- So no sum is below either of its parts; among the numbers that a run can hold, this makes no difference.
abbrev pub held_sum : ℕ → ℕ → ℕ
held_sum a b = max (max a b) (min largest (a + b))

abbrev pub SumsAreHeld : Type 0
SumsAreHeld = (a b : ℕ) → a ≤ largest → b ≤ largest → held_sum a b ≡ min largest (a + b)

abbrev pub no_run : Run
no_run = record { advance = 0; count = 0 }

abbrev pub longer : Run → Run → Run
longer x y = record { advance = held_sum x.advance y.advance; count = held_sum x.count y.count }

abbrev pub width_of : Run → ℕ → ℕ
width_of x space = x.advance + space * (x.count - 1)

abbrev pub has_room : Run → Room → Bool
has_room x room = nat_le (width_of x room.space) room.width
