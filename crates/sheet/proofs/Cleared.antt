-- The bottoms kept as numbers are those of the panels. Assumes nothing.
use Rattle.std.proofs.Common.{◌≡◌, ℕ, max, cond, List, [], ◌∷◌, sym, refl, ap, ◌∙◌, arith}
use Rattle.shapes.specs.declared.sides.Side.{Side}
use Rattle.shapes.specs.declared.sides.Side.TheVariants.{Left, Right}
use Rattle.shapes.specs.declared.sides.Clear.{Clear}
use Rattle.shapes.specs.declared.sides.Clear.TheVariants as C
use Rattle.shapes.specs.Form.{clears}
use Rattle.places.specs.Panels.{Placed, bottom}
use Rattle.places.specs.Tried.{bottoms}
use Rattle.sheet.specs.declared.clearance.Bottoms.{Bottoms}
use Rattle.sheet.specs.Clearance.{lowest, with_bottom, bottoms_of}

none_cleared : (qs : List Placed) → bottoms C.None qs ≡ 0
none_cleared [] = refl
none_cleared (q ∷ qs) = let e = none_cleared qs in omega arith

-- one panel more, seen from its side
both_more : (s : Side) (b l r : ℕ) → max (max (cond (clears C.Left s) b 0) l) (max (cond (clears C.Right s) b 0) r) ≡ max b (max l r)
both_more Left b l r = omega arith
both_more Right b l r = omega arith

both_cleared : (qs : List Placed) → max (bottoms C.Left qs) (bottoms C.Right qs) ≡ bottoms C.Both qs
both_cleared [] = refl
both_cleared (q ∷ qs) =
    let e = both_cleared qs in
    both_more q.side (bottom q) (bottoms C.Left qs) (bottoms C.Right qs) ∙ ap (max (bottom q)) e

pub lowest_is : (c : Clear) (qs : List Placed) → lowest c (bottoms_of qs) ≡ bottoms c qs
lowest_is C.None qs = sym (none_cleared qs)
lowest_is C.Left qs = refl
lowest_is C.Right qs = refl
lowest_is C.Both qs = both_cleared qs

pair : (a b c d : ℕ) → a ≡ c → b ≡ d → ◌≡◌ {A = Bottoms} (record { left = a; right = b }) (record { left = c; right = d })
pair a b c d p q = cc

more : (s : Side) (n l r : ℕ) → with_bottom s n (record { left = l; right = r }) ≡ record { left = max (cond (clears C.Left s) n 0) l; right = max (cond (clears C.Right s) n 0) r }
more Left n l r = pair _ _ _ _ refl (let e : r ≡ max 0 r = omega arith in e)
more Right n l r = pair _ _ _ _ (let e : l ≡ max 0 l = omega arith in e) refl

pub with_is : (q : Placed) (qs : List Placed) → with_bottom q.side (bottom q) (bottoms_of qs) ≡ bottoms_of (q ∷ qs)
with_is q qs = more q.side (bottom q) (bottoms C.Left qs) (bottoms C.Right qs)
