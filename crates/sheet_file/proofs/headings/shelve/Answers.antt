use Rattle.std.proofs.Common.{◌≡◌, ℕ, [], subst, arith}
use Rattle.std.proofs.lemmas.Result.{err_from_is_err_and}
use Rattle.shapes.specs.Models.{stairs_model}
use Rattle.items.specs.Shelves.{kept}
use Rattle.sheet_file.specs.Cursors.{ahead, number}
use Rattle.sheet_file.specs.Plans.{stairs_of, shapes_plan}
use Rattle.sheet_file.specs.Turns.{Forward}
use Rattle.sheet_file.proofs.Going.{forward_then, forward_one}
use Rattle.sheet_file.proofs.ShapeByShape.{shapes_more, shapes_stop, shapes_all, length_kept}
use Rattle.sheet_file.proofs.headings.shelve.Goals as goal

pub returns-in_err-stairs : goal.returns-in_err-stairs
returns-in_err-stairs c =
    let from = c.args.cursor.now in
    let here = c.loop.cursor in
    let x = c.in_err-stairs.field-0.0 in
    let p = err_from_is_err_and c.from_residual.result c.from_residual.ensures.1 in
    rw (p.1, p.2) (shapes_stop (shapes_plan c.args.count (number from) (ahead from) []) c.args.count c.loop.counter (number here) (ahead here) (kept c.loop.shelf) c.loop.invariant.2 x c.loop-test.true c.in_err-stairs.ensures)

pub loop-preserved : goal.loop-preserved
loop-preserved c =
    let from = c.args.cursor.now in
    let here = c.loop.cursor in
    let to = c.next_stairs.new.cursor in
    let inv = c.loop.invariant in
    let h = c.in_ok-stairs.ensures in
    let f = stairs_model c.in_ok-stairs.stairs in (
      forward_then c.loop.counter 1 from here to inv.0 (forward_one stairs_of here to f h.0 h.1),
      length_kept f (kept c.loop.shelf) (kept c.put.new.self) c.loop.counter inv.1 (omega (arith, c.requires)) c.put.ensures,
      shapes_more (shapes_plan c.args.count (number from) (ahead from) []) c.args.count c.loop.counter (number here) (ahead here) (kept c.loop.shelf) inv.2 f (number to) (ahead to) (kept c.put.new.self) c.loop-test.true (omega (arith, inv.1, c.requires)) h.0 h.1 c.put.ensures,
    )

pub returns : goal.returns
returns c =
    let from = c.args.cursor.now in
    let here = c.loop.cursor in
    let end : c.loop.counter ≡ c.args.count = omega arith in (
      shapes_all (shapes_plan c.args.count (number from) (ahead from) []) c.args.count c.loop.counter (number here) (ahead here) (kept c.loop.shelf) c.loop.invariant.2 (omega (arith, end)),
      subst (λ (k : ℕ). Forward k from here) end c.loop.invariant.0,
    )
