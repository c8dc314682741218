use Rattle.std.proofs.Common.{length, sym, ◌∙◌, arith}
use Rattle.printing.specs.Laying.{greatest}
use Rattle.sheet_report.proofs.Showing.{no_longer_held, always_fits, shown_whole}
use Rattle.sheet_report.proofs.reports.shown.Goals as goal

-- memory is shorter than the greatest number, so that the count is not held at it
pub unwrap-requires : goal.unwrap-requires
unwrap-requires g c =
    let out = c.in_ok-out.out in
    always_fits (g.P.Printable.bytes c.args.item.now) c.as_mut_slice.result.now c.print_at_front.result (omega (arith, c.as_mut_slice.ensures.len, c.in_ok-out.ensures.len, c.wanted.ensures, out.ok.1, out.small)) c.print_at_front.ensures.answer

pub returns : goal.returns
returns g c =
    let out = c.in_ok-out.out in
    let bs = g.P.Printable.bytes c.args.item.now in
    shown_whole bs c.as_mut_slice.result.now c.print_at_front.new.out out.items out.len c.unwrap.result c.as_mut_slice.ensures.len (no_longer_held out.len c.wanted.result (length bs) greatest c.in_ok-out.ensures.len c.wanted.ensures) (sym c.unwrap.ensures ∙ c.print_at_front.ensures.answer) c.print_at_front.ensures.kept
