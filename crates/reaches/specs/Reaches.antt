-- The reach of some rows: how far in what stands there comes, from each edge of the sheet. Assumes nothing.
--     no_reach             nobody reaches in
--     farther r s          of each of the four numbers the greater
--     between W m l r      what is left between the margins m where the left l and the right r units of W are taken
--     left_over of W m r   what the boxes, or the areas, with the reach r leave between the margins m, on a sheet W wide
--     leaves_need r l      that is at least the need l wide
use Rattle.std.specs.Prelude.{ℕ, ◌-◌, min, max, Bool, nat_le}
use Rattle.places.specs.declared.parts.Span.{Span}
use Rattle.places.specs.Bands.{span, room}
use Rattle.reaches.specs.declared.reach.Reach.{Reach}
use Rattle.reaches.specs.declared.reach.Need.{Need}
use Rattle.reaches.specs.declared.reach.Taken.{Taken}
use Rattle.reaches.specs.declared.reach.Taken.TheVariants.{Boxes, Areas}

abbrev pub reach : ℕ → ℕ → ℕ → ℕ → Reach
reach a b c d = record { box_left = a; box_right = b; area_left = c; area_right = d }

abbrev pub no_reach : Reach
no_reach = reach 0 0 0 0

abbrev pub farther : Reach → Reach → Reach
farther x y =
    reach
    (max x.box_left y.box_left)
    (max x.box_right y.box_right)
    (max x.area_left y.area_left)
    (max x.area_right y.area_right)

abbrev pub between : ℕ → Span → ℕ → ℕ → Span
between W m l r = span (max m.from l) (min m.to (W - r))

abbrev pub left_over : Taken → ℕ → Span → Reach → Span
left_over Boxes W m r = between W m r.box_left r.box_right
left_over Areas W m r = between W m r.area_left r.area_right

abbrev pub leaves_need : Reach → Need → Bool
leaves_need r l = nat_le l.need (room (left_over l.gap.of l.gap.width l.gap.margins r))
