-- A box and a staircase within their limits are real forms. Assumes nothing.
use Rattle.std.specs.Prelude.{◌≡◌, ℕ, ◌<◌, ◌≤◌, true, ◌&&◌, List, nat_le, nat_lt}
use Rattle.std.proofs.Common.{arith}
use Rattle.std.proofs.lemmas.Bool.{leb-true, le-ltb, and_parts, and_from, cond_both, cond-false}
use Rattle.shapes.specs.declared.stairs.Step.{Step}
use Rattle.shapes.specs.Form.{Real, most_units}
use Rattle.shapes.specs.Made.{in_range}
use Rattle.shapes.specs.Box.{box_form}
use Rattle.shapes.specs.Staircase.{rows_of, stairs_form, count_fits, steps_fit, stairs_fit}
use Rattle.shapes.specs.Staircases.{row_past, row_within}

range_parts : (n : ℕ) → in_range n ≡ true → (0 < n) × (n ≤ most_units)
range_parts n h =
    let p = and_parts (nat_le 1 n) (nat_le n most_units) h in
    (leb-true 1 n p.0, leb-true n most_units p.1)

pub box_real : (w p : ℕ) → (in_range w && in_range p) ≡ true → Real (box_form w p)
box_real w p h =
    let a = and_parts (in_range w) (in_range p) h in
    let wide = range_parts w a.0 in
    let tall = range_parts p a.1 in
    record {
      wide_some = wide.0;
      wide_most = wide.1;
      tall_some = tall.0;
      tall_most = tall.1;
      within = λ k. cond_both (nat_lt k p) w 0 (λ e. e ≤ w) (λ _. omega arith) (λ _. omega arith);
      past = λ k le. cond-false (nat_lt k p) w 0 (le-ltb k p le);
    }

pub plain_real : (w p : ℕ) → in_range w ≡ true → in_range p ≡ true → Real (box_form w p)
plain_real w p h k = box_real w p (and_from (in_range w) (in_range p) h k)

pub stairs_real : (w : ℕ) (ss : List Step) → stairs_fit w ss ≡ true → Real (stairs_form w ss)
stairs_real w ss h =
    let a = and_parts (in_range w) (count_fits ss && (steps_fit w ss && in_range (rows_of ss))) h in
    let b = and_parts (count_fits ss) (steps_fit w ss && in_range (rows_of ss)) a.1 in
    let c = and_parts (steps_fit w ss) (in_range (rows_of ss)) b.1 in
    let wide = range_parts w a.0 in
    let tall = range_parts (rows_of ss) c.1 in
    record {
      wide_some = wide.0;
      wide_most = wide.1;
      tall_some = tall.0;
      tall_most = tall.1;
      within = λ k. row_within w ss k c.0;
      past = row_past ss;
    }
