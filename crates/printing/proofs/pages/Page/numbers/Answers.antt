use Rattle.std.proofs.Common.{[], ◌∷◌, get_or, decimal, sym, ◌∙◌}
use Rattle.lexer.specs.Bytes.{space, line_end}
use Rattle.std.specs.List.{flat_map}
use Rattle.fault_lines.specs.Fields.{field}
use Rattle.printing.specs.Pages.{on}
use Rattle.printing.proofs.Laid.{joins, part_more, part_all}
use Rattle.printing.proofs.pages.Page.numbers.Goals as goal

pub loop-n-preserved : goal.loop-n-preserved
loop-n-preserved c =
    let list = c.args.list.now in
    let i = c.loop-n.n-index in
    let u = on c.loop-n.self in
    let w = on c.number.new.self in
    let e = joins (space ∷ []) (decimal (get_or list i 0)) u (on c.byte.new.self) w c.byte.ensures.bytes c.number.ensures.bytes in
    record { bytes = part_more field list i 0 u w c.loop-n-test.true e ∙ c.loop-n.invariant.bytes; memory = cc }

pub returns-clause-bytes : goal.returns-clause-bytes
returns-clause-bytes c =
    let list = c.args.list.now in
    let v = on c.loop-n.self in
    let e = sym (part_all field list c.loop-n.n-index v c.loop-n-test.false) ∙ c.loop-n.invariant.bytes in
    joins (flat_map field list) (line_end ∷ []) (on c.args.self.now) v (on c.byte-2.new.self) e c.byte-2.ensures.bytes
