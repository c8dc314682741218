-- One row: too tight for the open line, or good.
use Rattle.std.specs.Prelude.{ℕ, Bool, true, false, T, Some, None, Option}
use Rattle.std.specs.Bool.{then_some}
use Rattle.std.proofs.Common.{◌≤◌, arith, subst, sym}
use Rattle.places.specs.Bands.{room}
use Rattle.rows.specs.Asked.{sizes_of, wanted}
use Rattle.rows.specs.OneRow.{OnRow}
use Rattle.rows.proofs.Halving.{too_tight, good_row}
use Rattle.rows.proofs.Rows.stand_on.Goals as goal

by_then_some : (P : Option ℕ → Type 0) (x : ℕ) (b : Bool) → (T b → P (Some x)) → ((T b → ⊥) → P None) → P (then_some b x)
by_then_some P x true kept lost = kept tt
by_then_some P x false kept lost = lost (λ h. h)

pub returns-clause-told : goal.returns-clause-told
returns-clause-told g c = λ scene k shows low.
    let rows = c.args.self.now in
    let f = g.S.Shape.model c.args.shape.now in
    let some = (g.met.S.Shape.real c.args.shape.now).wide_some in
    let fits : c.width-width.result ≤ room c.free_on-free.result = omega (arith, c.room.ensures) in
    let told = by_then_some (OnRow (sizes_of rows c.args.ground.line) scene (wanted c.args.side k f) c.args.y) c.nearest-x.result c.keeps.result
    (λ kept. good_row rows c.args.ground.margins c.args.ground.line c.args.ground.current c.args.around c.args.side f c.args.y c.width-width.result c.free_on-free.result
    c.width-width.ensures c.requires.around c.free_on-free.ensures.told scene k shows low
    c.nearest-x.result c.nearest-x.ensures some fits c.requires.high (c.keeps.ensures.kept kept))
    (λ lost. too_tight rows c.args.ground.margins c.args.ground.line c.args.ground.current c.args.around c.args.side f c.args.y c.width-width.result c.free_on-free.result
    c.width-width.ensures c.requires.around c.free_on-free.ensures.told scene k shows low
    c.nearest-x.result c.nearest-x.ensures (λ leaves. lost (c.keeps.ensures.lost leaves))) in
    subst (OnRow (sizes_of rows c.args.ground.line) scene (wanted c.args.side k f) c.args.y) (sym c.then_some.ensures) told
