-- What is made is a real form, and no box that is one is refused. Assumes nothing.
use Rattle.std.proofs.Common.{◌≡◌, ℕ, ◌<◌, ◌≤◌, Bool, true, false, cond, ◌&&◌, Some, None, ap, subst, refl}
use Rattle.std.specs.Prelude.{nat_le}
use Rattle.std.proofs.lemmas.Bool.{le-leb, and_from}
use Rattle.shapes.specs.Form.{Form, Real, most_units}
use Rattle.shapes.specs.Made.{in_range}
use Rattle.shapes.specs.Box.{box_form, make_box}
use Rattle.shapes.specs.Staircase.{stairs_form, stairs_fit}
use Rattle.shapes.specs.Theorems.{MadeAreReal}
use Rattle.shapes.specs.Reals.{box_real, stairs_real}

range_from : (n : ℕ) → 0 < n → n ≤ most_units → in_range n ≡ true
range_from n some most = and_from (nat_le 1 n) (nat_le n most_units) (le-leb 1 n some) (le-leb n most_units most)

-- a form is made under its test only
under_test : (b : Bool) (f g : Form) → cond b (Some f) None ≡ Some g → (b ≡ true → Real f) → Real g
under_test true f g h real = let e : f ≡ g = cc in subst Real e (real refl)
under_test false f g h real = cc

box_refused : (w p : ℕ) → make_box w p ≡ None → Real (box_form w p) → ⊥
box_refused w p h real =
    let wide = range_from w real.wide_some real.wide_most in
    let tall = range_from p real.tall_some real.tall_most in
    let made = ap (λ b. cond b (Some (box_form w p)) None) (and_from (in_range w) (in_range p) wide tall) in
    cc

pub made_are_real : MadeAreReal
made_are_real = record {
  boxes = λ w p f h. under_test (in_range w && in_range p) (box_form w p) f h (box_real w p);
  stairs = λ w ss f h. under_test (stairs_fit w ss) (stairs_form w ss) f h (stairs_real w ss);
  refused = box_refused;
}
