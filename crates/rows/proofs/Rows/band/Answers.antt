-- What the areas' reach leaves is the band.
use Rattle.std.proofs.Common.{sym, ap, ◌∙◌}
use Rattle.reaches.specs.declared.reach.Gap.{Gap}
use Rattle.reaches.specs.declared.reach.Taken.TheVariants.{Areas}
use Rattle.reaches.specs.Reaches.{left_over}
use Rattle.reaches.proofs.Bands.{areas_leave_the_band}
use Rattle.rows.proofs.Rows.band.Goals as goal

pub returns : goal.returns
returns c = λ qs told.
    let width = c.args.self.now.width in
    let margins = c.args.margins in
    c.left_over.ensures
    ∙ ap (λ (gap : Gap). left_over gap.of gap.width gap.margins c.reach_of.result) c.gap.ensures
    ∙ ap (left_over Areas width margins) (c.reach_of.ensures qs told)
    ∙ sym (areas_leave_the_band width margins qs c.args.top c.args.n c.requires.margins told.inside)
