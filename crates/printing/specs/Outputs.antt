-- What is printed at the front of lent memory, or refused. Assumes nothing.
--     short_output          the number by which the refusal is known outside
--     room_for n out        the memory out has room for n bytes, or the refusal
--     fits bs out           the bytes bs go into the memory out
--     print_answer bs out   what printing bs into out answers: how many bytes they are, or the refusal
--     print_kept bs out     what the memory holds then: bs, and behind them what was there; or all as it was
use Rattle.std.specs.Prelude.{ℕ, Bool, cond, List, ◌++◌, length, drop, Ok, Err, Result, nat_le}
use Rattle.printing.specs.declared.outputs.ShortOutput.{ShortOutput}

abbrev pub short_output : ℕ
short_output = 13

abbrev pub room_for : ℕ → List ℕ → Result (Unit {0}) ShortOutput
room_for n out = cond (nat_le n (length out)) (Ok tt) (Err (record {}))

abbrev pub fits : List ℕ → List ℕ → Bool
fits bs out = nat_le (length bs) (length out)

abbrev pub print_answer : List ℕ → List ℕ → Result ℕ ShortOutput
print_answer bs out = cond (fits bs out) (Ok (length bs)) (Err (record {}))

abbrev pub print_kept : List ℕ → List ℕ → List ℕ
print_kept bs out = cond (fits bs out) (bs ++ drop (length bs) out) out
