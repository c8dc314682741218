-- What the areas' reach leaves is the band.
use Rattle.std.proofs.Common.{leb, sym, ap, ◌∙◌}
use Rattle.places.specs.Bands.{room}
use Rattle.reaches.specs.declared.reach.Gap.{Gap}
use Rattle.reaches.specs.declared.reach.Taken.TheVariants.{Areas}
use Rattle.reaches.specs.Reaches.{left_over}
use Rattle.reaches.proofs.Bands.{areas_leave_the_band}
use Rattle.rows.proofs.Rows.is_wide.Goals as goal

pub returns : goal.returns
returns c = λ qs told.
    let width = c.args.self.now.width in
    let margins = c.args.margins in
    let band = areas_leave_the_band width margins qs c.args.top c.args.line c.requires.margins told.inside in
    c.within.ensures
    ∙ ap (λ (gap : Gap). leb c.args.need (room (left_over gap.of gap.width gap.margins c.reach_of.result))) c.gap-gap.ensures
    ∙ ap (λ r. leb c.args.need (room (left_over Areas width margins r))) (c.reach_of.ensures qs told)
    ∙ ap (λ b. leb c.args.need (room b)) (sym band)
