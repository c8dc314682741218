-- The metrics of the two families. Assumes nothing.
--     family_advances f n   the advances of the metrics of this family and number, if there is one
--     scale_advances s      the advance of each byte by s
--     made r                the advances of the metrics that the code holds as r, if it holds one
--     Makes f n r           r is the metrics of this family and number, a cell or the house table as the family says, or there is none
use Rattle.std.specs.Prelude.{ℕ, cond, ◌&&◌, Some, None, Ok, Err, Option, Result, nat_le}
use Rattle.metrics.specs.declared.Unfit.{Unfit}
use Rattle.metrics.specs.House.{house_widths}
use Rattle.metrics.specs.Making.{MakesCell, MakesHouse}
use Rattle.metrics.specs.Width.{table_advance}
use Rattle.scales.specs.declared.Family.{Family}
use Rattle.scales.specs.declared.Family.TheVariants as F
use Rattle.scales.specs.declared.Scale.{Scale}
use Rattle.scales.specs.declared.Scale.TheVariants as S

-- a cell of 1 to 255 units; the house table at a size of 1 to 120
abbrev pub family_advances : Family → ℕ → Option (ℕ → ℕ)
family_advances F.Cell n = cond (nat_le 1 n && nat_le n 255) (Some (λ _. n)) None
family_advances F.Table n = cond (nat_le 1 n && nat_le n 120) (Some (table_advance house_widths n)) None

abbrev pub scale_advances : Scale → ℕ → ℕ
scale_advances (S.Cell m) = λ _. m.advance
scale_advances (S.Table t) = table_advance t.widths t.size

abbrev pub made : Result Scale Unfit → Option (ℕ → ℕ)
made (Ok s) = Some (scale_advances s)
made (Err _) = None

abbrev pub Makes : Family → ℕ → Result Scale Unfit → Type 0
Makes F.Cell n (Ok (S.Cell m)) = MakesCell n (Ok m)
Makes F.Cell n (Ok (S.Table t)) = ⊥
Makes F.Cell n (Err e) = MakesCell n (Err e)
Makes F.Table n (Ok (S.Cell m)) = ⊥
Makes F.Table n (Ok (S.Table t)) = MakesHouse n (Ok t)
Makes F.Table n (Err e) = MakesHouse n (Err e)
