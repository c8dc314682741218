-- What the boxes' reach leaves is what is free.
use Rattle.std.proofs.Common.{sym, ap, ◌∙◌}
use Rattle.reaches.specs.declared.reach.Gap.{Gap}
use Rattle.reaches.specs.declared.reach.Taken.TheVariants.{Boxes}
use Rattle.reaches.specs.Reaches.{left_over}
use Rattle.reaches.specs.Panels.{row_reach}
use Rattle.reaches.specs.Laws.{reach_laws}
use Rattle.reaches.proofs.Bands.{boxes_leave_the_free}
use Rattle.rows.proofs.Rows.free_on.Goals as goal

pub returns-clause-told : goal.returns-clause-told
returns-clause-told c = λ qs told.
    let width = c.args.self.now.width in
    let margins = c.args.margins in
    c.left_over.ensures
    ∙ ap (λ (gap : Gap). left_over gap.of gap.width gap.margins c.reach_of.result) c.gap.ensures
    ∙ ap (left_over Boxes width margins) (c.reach_of.ensures qs told ∙ reach_laws.right_neutral (row_reach width qs c.args.y))
    ∙ sym (boxes_leave_the_free width margins qs c.args.y c.requires.margins told.inside)
