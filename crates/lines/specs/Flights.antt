-- Flights of steps, from the top down, field by field. Assumes nothing.
--     Flight                  a width, and some steps
--     steps_form l            what a line `steps K W` says, with K pairs ROWS EXTENT behind it, K 1 to 16
--     steps_from k line p ss  the steps ss, then the k pairs from the place p on, and the place behind them
--     steps_said r            the flight that the code holds as r
--     climbed p r             the steps that the code holds as r, with the place p
--     Flown                   a flight, and the place behind it
--     flight_from line p      a flight `K W` with its pairs from the place p on, and the place behind it
--     flown p r               the flight that the code holds as r, with the place p
use Rattle.std.specs.Prelude.{ℕ, zero, suc, List, [], ◌∷◌, ◌++◌, Ok, Err, codes, Result}
use Rattle.lexer.specs.declared.faults.Fault.{Fault}
use Rattle.lexer.specs.Forms.{after, word, a_number, number_within, take, finish}
use Rattle.lexer.specs.Lines.{FileLine}
use Rattle.shapes.specs.declared.stairs.Step.{Step}
use Rattle.shapes.specs.declared.stairs.held.Steps.{Steps}
use Rattle.shapes.specs.Staircase.{most_steps}
use Rattle.shapes.specs.Steps.{steps_in}
use Rattle.lines.specs.declared.flights.StepsLine.{StepsLine}

pub record Flight : Type 0 where
  pub width : ℕ
  pub steps : List Step

-- some steps, and the place behind them
pub record Climb : Type 0 where
  pub steps : List Step
  pub place : ℕ

abbrev pub steps_from : ℕ → List ℕ → ℕ → List Step → Result Climb Fault
steps_from zero line p ss = Ok (record { steps = ss; place = p })
steps_from (suc k) line p ss =
    take a_number line p
    (λ r q. take a_number line q
    (λ e s. steps_from k line s (ss ++ (record { rows = r; extent = e } ∷ []))))

abbrev pub steps_form : FileLine → Result Flight Fault
steps_form l =
    take (word (codes "steps")) l.bytes 0
    (λ _ p. take (number_within 1 most_steps) l.bytes p
    (λ k q. take a_number l.bytes q
    (λ w r. after (steps_from k l.bytes r [])
    (λ c. finish l.ended l.bytes c.place (record { width = w; steps = c.steps })))))

abbrev pub steps_said : Result StepsLine Fault → Result Flight Fault
steps_said (Ok s) = Ok (record { width = s.width; steps = steps_in s.steps })
steps_said (Err e) = Err e

abbrev pub climbed : ℕ → Result Steps Fault → Result Climb Fault
climbed p (Ok ss) = Ok (record { steps = steps_in ss; place = p })
climbed p (Err e) = Err e

-- a flight, and the place behind it
pub record Flown : Type 0 where
  pub flight : Flight
  pub place : ℕ

abbrev pub flight_from : List ℕ → ℕ → Result Flown Fault
flight_from line p =
    take (number_within 1 most_steps) line p
    (λ k q. take a_number line q
    (λ w r. after (steps_from k line r [])
    (λ c. Ok (record { flight = record { width = w; steps = c.steps }; place = c.place }))))

abbrev pub flown : ℕ → Result StepsLine Fault → Result Flown Fault
flown p (Ok s) = Ok (record { flight = record { width = s.width; steps = steps_in s.steps }; place = p })
flown p (Err e) = Err e
