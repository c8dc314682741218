-- Taking a panel in, row by row. Assumes nothing.
use Rattle.std.proofs.Common.{◌≡◌, ℕ, ◌+◌, ◌-◌, ◌*◌, ◌<◌, ◌≤◌, Bool, true, false, cond, ltb, leb, ◌≢◌, List, ◌∷◌, length, get_or, drop, set, sym, refl, ap, ◌∙◌, subst, ap₂, ⊎_elim, arith, length-set, get_or-set_other, get_or-set_same}
use Rattle.std.proofs.lemmas.Bool.{le-ltb, cond-false, cases_lt, cases_eq}
use Rattle.shapes.specs.declared.sides.Side.{Side}
use Rattle.shapes.specs.declared.sides.Side.TheVariants.{Left, Right}
use Rattle.shapes.specs.Form.{Real}
use Rattle.places.specs.Panels.{Placed, bottom, area_on, box_on}
use Rattle.places.proofs.Panels.{among_more, box_is, area_is}
use Rattle.reaches.specs.declared.reach.Reach.{Reach}
use Rattle.reaches.specs.Reaches.{no_reach, farther}
use Rattle.reaches.specs.Panels.{reach_at, reach_of, row_reach}
use Rattle.reaches.specs.Laws.{reach_laws}
use Rattle.rows.specs.declared.Rows.{Rows}
use Rattle.rows.specs.Told.{Told}
use Rattle.rows.specs.Fit.{Stays}

-- the first k rows of the panel q are taken in
pub record Grown (W : ℕ) (q : Placed) (k : ℕ) (old new : List Reach) : Type 0 where
  pub long : length new ≡ length old
  pub done : (i : ℕ) → i < q.y + k → get_or new i no_reach ≡ farther (reach_of W q i) (get_or old i no_reach)
  pub rest : (i : ℕ) → q.y + k ≤ i → get_or new i no_reach ≡ get_or old i no_reach

-- where a panel has no box and no area, it reaches nowhere
nowhere : (W : ℕ) (s : Side) (x w : ℕ) → reach_at W s x w 0 0 ≡ no_reach
nowhere W Left x w = refl
nowhere W Right x w = refl

reach_by : (W : ℕ) (q : Placed) (i b a : ℕ) → box_on q i ≡ b → area_on q i ≡ a → reach_of W q i ≡ reach_at W q.side q.x q.form.wide b a
reach_by W q i b a p r = ap₂ (reach_at W q.side q.x q.form.wide) p r

neither : (a b : Bool) (w : ℕ) → b ≡ false → cond a (cond b w 0) 0 ≡ 0
neither true b w e = cond-false b w 0 e
neither false b w e = refl

below : (W : ℕ) (q : Placed) (i : ℕ) → bottom q ≤ i → Real q.form → reach_of W q i ≡ no_reach
below W q i h real =
    let past = le-ltb (i - q.y) q.form.tall (omega arith) in
    reach_by W q i 0 0
    (neither (leb q.y i) (ltb (i - q.y) q.form.tall) q.form.wide past)
    (area_is q i (omega arith) ∙ real.past (i - q.y) (omega arith))
    ∙ nowhere W q.side q.x q.form.wide

-- on its own row k
on_row : (W : ℕ) (q : Placed) (k : ℕ) → k < q.form.tall → reach_of W q (q.y + k) ≡ reach_at W q.side q.x q.form.wide q.form.wide (q.form.extent k)
on_row W q k h =
    reach_by W q (q.y + k) q.form.wide (q.form.extent k)
    (box_is q (q.y + k) (omega arith) (omega arith))
    (area_is q (q.y + k) (omega arith) ∙ ap q.form.extent (let e : q.y + k - q.y ≡ k = omega arith in e))

pub row_taken : (W V w e : ℕ) (q : Placed) (k : ℕ) (r : Reach) → k < q.form.tall → V ≡ W → w ≡ q.form.wide → e ≡ q.form.extent k
    → r ≡ reach_at V q.side q.x w w e → r ≡ reach_of W q (q.y + k)
row_taken W V w e q k r small is_W is_w is_e is =
    is
    ∙ ap (λ v. reach_at v q.side q.x w w e) is_W
    ∙ ap₂ (λ w e. reach_at W q.side q.x w w e) is_w is_e
    ∙ sym (on_row W q k small)

pub grown_more : (W : ℕ) (q : Placed) (k : ℕ) (old new new' : List Reach) (r : Reach) → q.y + k < length new → Grown W q k old new → r ≡ reach_of W q (q.y + k)
    → new' ≡ set new (q.y + k) (farther r (get_or new (q.y + k) no_reach)) → Grown W q (k + 1) old new'
grown_more W q k old new new' r lt t is e =
    let at = q.y + k in
    let v = farther r (get_or new at no_reach) in
    let is_v : v ≡ farther (reach_of W q at) (get_or old at no_reach) = ap₂ farther is (t.rest at (omega arith)) in
    let read : (i : ℕ) → get_or new' i no_reach ≡ get_or (set new at v) i no_reach = λ i. ap (λ c. get_or c i no_reach) e in
    record {
      long = ap length e ∙ length-set new at v ∙ t.long;
      done = λ i h.
          ⊎_elim
          (λ (here : i ≡ at).
          read i
          ∙ ap (λ j. get_or (set new at v) j no_reach) here
          ∙ get_or-set_same new at v no_reach lt
          ∙ is_v
          ∙ sym (ap (λ j. farther (reach_of W q j) (get_or old j no_reach)) here))
          (λ (ne : i ≢ at). read i ∙ get_or-set_other new at i v no_reach ne ∙ t.done i (omega (arith, ne)))
          (cases_eq i at);
      rest = λ i h.
          let ne : i ≢ at = omega arith in
          read i ∙ get_or-set_other new at i v no_reach ne ∙ t.rest i (omega arith);
    }

-- all of its rows
pub grown_all : (W H : ℕ) (q : Placed) (old new : List Reach) → Real q.form → q.x + q.form.wide ≤ W → Grown W q q.form.tall old new
    → (qs : List Placed) → Told W H old qs → Told W H new (q ∷ qs)
grown_all W H q old new real wide t qs told = record {
  inside = among_more (λ p. p.x + p.form.wide ≤ W) q qs wide told.inside;
  each = λ k lt.
      ⊎_elim
      (λ l. t.done k l ∙ ap (farther (reach_of W q k)) (told.each k lt))
      (λ g.
      t.rest k g
      ∙ told.each k lt
      ∙ sym (ap (λ r. farther r (row_reach W qs k)) (below W q k g real) ∙ reach_laws.left_neutral (row_reach W qs k)))
      (cases_lt k (bottom q));
}

-- what stays over two steps
pub stays_on : (a b c : Rows) → Stays a b → Stays b c → Stays a c
stays_on a b c s t = record {
  width = t.width ∙ s.width;
  height = t.height ∙ s.height;
  tree = record {
    count = t.tree.count ∙ s.tree.count;
    size = t.tree.size ∙ s.tree.size;
    rest = subst (λ n. drop (2 * n) c.tree.cells.now ≡ drop (2 * n) b.tree.cells.now) s.tree.size t.tree.rest ∙ s.tree.rest;
  };
}
