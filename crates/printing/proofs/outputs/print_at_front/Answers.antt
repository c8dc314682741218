use Rattle.std.proofs.Common.{◌<◌, ◌≤◌, length, sym, ◌∙◌, arith}
use Rattle.printing.specs.Laying.{counted, greatest}
use Rattle.printing.proofs.Room.{room_enough, answer_whole, kept_whole}
use Rattle.printing.proofs.outputs.print_at_front.Goals as goal

pub returns : goal.returns
returns g c =
    let bs = g.P.Printable.bytes c.args.item.now in
    let out = c.args.out.now in
    let enough = room_enough c.wanted.result out c.in_ok-room.field-0 (sym c.room.ensures ∙ c.in_ok-room.was) in
    let room : counted bs ≤ length out = omega (arith, c.wanted.ensures) in
    let short : length out < greatest = omega arith in
    record { answer = answer_whole bs out _ _ c.lay_at_front.ensures room short; kept = kept_whole bs out _ _ c.lay_at_front.ensures room short }
