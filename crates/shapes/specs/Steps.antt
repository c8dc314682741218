-- Steps that the code holds in an array, as a list. Assumes nothing.
--     steps_in s     the steps of s: the first of its array, as many as it counts
--     few_steps ss   the steps ss where there are at most 16, else None
use Rattle.std.specs.Prelude.{cond, List, take, length, Some, None, Option, nat_le}
use Rattle.shapes.specs.declared.stairs.Step.{Step}
use Rattle.shapes.specs.declared.stairs.held.Steps.{Steps}
use Rattle.shapes.specs.Staircase.{most_steps}

abbrev pub steps_in : Steps → List Step
steps_in s = take s.count s.steps

abbrev pub few_steps : List Step → Option (List Step)
few_steps ss = cond (nat_le (length ss) most_steps) (Some ss) None
