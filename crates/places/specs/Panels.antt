-- A panel that stands, and what it takes of a row. Assumes nothing.
--     Placed        a panel's side, the place of its box, and its shape
--     Among a bs    a is one of bs
--     bottom q      the first row below q's box
--     area_on q k   how wide q's float area is on row k of the sheet, 0 where it has none
--     box_on q k    how wide q's box is on row k of the sheet, 0 where it has none
use Rattle.std.specs.Prelude.{ℕ, ◌+◌, ◌-◌, cond, List, ◌∷◌, nat_le, nat_lt}
use Rattle.shapes.specs.declared.sides.Side.{Side}
use Rattle.shapes.specs.Form.{Form}

pub record Placed : Type 0 where
  pub side : Side
  pub x : ℕ
  pub y : ℕ
  pub form : Form

pub data Among {A : Type 0} (a : A) : List A → Type 0 where
  here : {bs : List A} → Among a (a ∷ bs)
  there : {b : A} {bs : List A} → Among a bs → Among a (b ∷ bs)

abbrev pub bottom : Placed → ℕ
bottom q = q.y + q.form.tall

abbrev pub area_on : Placed → ℕ → ℕ
area_on q k = cond (nat_le q.y k) (q.form.extent (k - q.y)) 0

abbrev pub box_on : Placed → ℕ → ℕ
box_on q k = cond (nat_le q.y k) (cond (nat_lt (k - q.y) q.form.tall) q.form.wide 0) 0
