-- The house table goes by its rule, and its widths fit a table. Assumes nothing.
use Rattle.std.proofs.Common.{◌≡◌, ℕ, ◌+◌, ◌-◌, ◌<◌, cond, length, get_or, Ok, Err, Result, sym, ap, ◌∙◌, subst, arith}
use Rattle.std.proofs.lemmas.List.FromFn.{get_or-map-range_with_len, length-map-range_with_len}
use Rattle.std.proofs.lemmas.Bool.{cond_both}
use Rattle.metrics.specs.House.{narrow, wide, among, house_width, house_widths, HouseByRule}
use Rattle.metrics.specs.Making.{MakesTable, MakesHouse}
use Rattle.metrics.specs.Width.{FitWidth, FitWidths}
use Rattle.metrics.specs.declared.Unfit.{Unfit}
use Rattle.metrics.specs.declared.tables.Table.{Table}
use Rattle.metrics.proofs.Places.{place_own, place_other}

house_long : length house_widths ≡ 95
unfolding house_widths
house_long = length-map-range_with_len house_width 32 95

house_at : (i : ℕ) → i < 95 → get_or house_widths i 0 ≡ house_width (32 + i)
unfolding house_widths
house_at i lt = get_or-map-range_with_len house_width 32 95 i (32 + i) 0 lt (omega arith)

pub house_by_rule : HouseByRule
house_by_rule = record {
  own = λ b printable.
      ap (λ i. get_or house_widths i 0) (place_own b printable)
      ∙ house_at (b - 32) (omega arith)
      ∙ ap house_width (let back : 32 + (b - 32) ≡ b = omega arith in back);
  other = λ b other. ap (λ i. get_or house_widths i 0) (place_other b other) ∙ house_at 0 (omega arith);
}

house_width_fits : (b : ℕ) → FitWidth (house_width b)
house_width_fits b =
    cond_both (among b narrow) 250 (cond (among b wide) 750 500) FitWidth
    (λ _. (omega arith, omega arith))
    (λ _. cond_both (among b wide) 750 500 FitWidth (λ _. (omega arith, omega arith)) (λ _. (omega arith, omega arith)))

house_fits : FitWidths house_widths
house_fits k lt =
    let long = house_long in
    subst FitWidth (sym (house_at k (omega arith))) (house_width_fits (32 + k))

-- only the size can be refused
pub house_made : (q : ℕ) (r : Result Table Unfit) → MakesTable house_widths q r → MakesHouse q r
house_made q (Ok t) made = (made.0.large, made.1, made.2)
house_made q (Err e) refused = λ large. refused (record { count = house_long; wide = house_fits; large = large })
