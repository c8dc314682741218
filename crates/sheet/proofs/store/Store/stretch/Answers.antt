use Rattle.std.proofs.Common.{◌<◌, arith}
use Rattle.text.specs.Run.{largest}
use Rattle.sheet.specs.Stores.{view}
use Rattle.sheet.proofs.Stretches.{taken_run, stretches}
use Rattle.sheet.proofs.store.Store.stretch.Goals as goal

pub returns-clause-account : goal.returns-clause-account
returns-clause-account c =
    let t = c.args.text.now in
    let l = c.in-Some.words in
    let sp = c.space-space.result in
    let n = c.in-Some-room_left.width in
    let spaced = t.spaced in
    let small : n < largest = omega (arith, c.space-space.ensures, c.in-Some-room_left.ensures.fits) in
    let k = taken_run t (record { width = n; space = sp }) c.args.from c.longest_run-to.result c.fold-run.result small c.longest_run-to.ensures c.if-to-from.false c.fold-run.ensures in
    stretches (view c.args.self.now) c.args.para t sp c.args.from c.longest_run-to.result n _ l c.fold-run.result c.space-space.ensures c.in-Some.is c.in-Some-room_left.ensures.told c.if-to-from.false k (omega (arith, c.from.ensures, c.width.ensures))
