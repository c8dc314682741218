-- The rows that rules 4, 5, 6 and clear allow. Assumes nothing.
use Rattle.std.proofs.Common.{◌≡◌, ℕ, ◌≤◌, true, cond, List, [], ◌∷◌, arith}
use Rattle.std.proofs.lemmas.Bool.{cond-true, cond_both}
use Rattle.shapes.specs.declared.sides.Clear.{Clear}
use Rattle.shapes.specs.Form.{clears}
use Rattle.places.specs.Panels.{Placed, Among, here, there, bottom}
use Rattle.places.specs.Permitted.{Rows, Scene, Wanted, Permitted}
use Rattle.places.specs.Tried.{most, bottoms, tops, first_row}
use Rattle.places.specs.Theorems.{LowEnough, AllowedRow, TopsDecide, FirstRowDecides}

pub most_to : {A : Type 0} (f : A → ℕ) (bs : List A) (y : ℕ) → most f bs ≤ y → (a : A) → Among a bs → f a ≤ y
most_to f [] y h a m = elim m [ ]
most_to f (b ∷ bs) y h a here = omega arith
most_to f (b ∷ bs) y h a (there m) = most_to f bs y (omega arith) a m

pub most_from : {A : Type 0} (f : A → ℕ) (bs : List A) (y : ℕ) → ((a : A) → Among a bs → f a ≤ y) → most f bs ≤ y
most_from f [] y h = omega arith
most_from f (b ∷ bs) y h =
    let first = h b here in
    let rest = most_from f bs y (λ a m. h a (there m)) in
    omega arith

pub bottoms_to : (c : Clear) (qs : List Placed) (y : ℕ) → bottoms c qs ≤ y → (q : Placed) → Among q qs → clears c q.side ≡ true → bottom q ≤ y
bottoms_to c qs y h q a e =
    let le = most_to {A = Placed} (λ q. cond (clears c q.side) (bottom q) 0) qs y h q a in
    let is = cond-true (clears c q.side) (bottom q) 0 e in
    omega arith

pub bottoms_from : (c : Clear) (qs : List Placed) (y : ℕ) → ((q : Placed) → Among q qs → clears c q.side ≡ true → bottom q ≤ y) → bottoms c qs ≤ y
bottoms_from c qs y f =
    most_from {A = Placed} (λ q. cond (clears c q.side) (bottom q) 0) qs y
    (λ q a. cond_both (clears c q.side) (bottom q) 0 (λ n. n ≤ y) (f q a) (λ _. omega arith))

pub tops_to : (S : Scene) (y : ℕ) → tops S ≤ y → LowEnough S y
tops_to S y h = record {
  paragraph = omega arith;
  panels = most_to {A = Placed} (λ q. q.y) S.placed y (omega arith);
  lines = most_to {A = ℕ} (λ t. t) S.lines y (omega arith);
}

pub tops_from : (S : Scene) (y : ℕ) → LowEnough S y → tops S ≤ y
tops_from S y h =
    let a = h.paragraph in
    let b = most_from {A = Placed} (λ q. q.y) S.placed y h.panels in
    let c = most_from {A = ℕ} (λ t. t) S.lines y h.lines in
    omega arith

pub first_row_to : (S : Scene) (o : Wanted) (y : ℕ) → first_row S o ≤ y → AllowedRow S o y
first_row_to S o y h = record { low = tops_to S y (omega arith); cleared = bottoms_to o.clear S.placed y (omega arith) }

pub first_row_from : (S : Scene) (o : Wanted) (y : ℕ) → AllowedRow S o y → first_row S o ≤ y
first_row_from S o y h =
    let a = tops_from S y h.low in
    let b = bottoms_from o.clear S.placed y h.cleared in
    omega arith

-- a permitted place is on such a row
pub permitted_row : {z : Rows} {S : Scene} {o : Wanted} {x y : ℕ} → Permitted z S o x y → AllowedRow S o y
permitted_row p = record { low = record { paragraph = p.paragraph; panels = p.panels; lines = p.lines }; cleared = p.cleared }

pub tops_decide : TopsDecide
tops_decide S y = (tops_to S y, tops_from S y)

pub first_row_decides : FirstRowDecides
first_row_decides S o y = (first_row_to S o y, first_row_from S o y)
