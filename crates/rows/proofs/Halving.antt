-- Halving the rows for a panel's best place. Assumes nothing.
use Rattle.std.proofs.Common.{◌≡◌, ℕ, ◌+◌, ◌-◌, ◌<◌, ◌≤◌, List, Some, None, Option, sym, refl, ap, ◌∙◌, subst, ap₂, arith}
use Rattle.shapes.specs.declared.sides.Side.{Side}
use Rattle.shapes.specs.declared.sides.Clear.{Clear}
use Rattle.shapes.specs.Form.{Form, Real}
use Rattle.places.specs.declared.parts.Span.{Span}
use Rattle.places.specs.declared.parts.Line.{Line}
use Rattle.places.specs.declared.parts.Place.{Place}
use Rattle.places.specs.Panels.{Placed}
use Rattle.places.specs.Bands.{room, beside, free, widest}
use Rattle.places.specs.Permitted.{Rows as Sizes, Scene, put, Keeps, Best}
use Rattle.places.specs.Tried.{first_row, against, near, Good}
use Rattle.places.specs.Theorems.{Found}
use Rattle.places.proofs.Panels.{keeps_to, keeps_from}
use Rattle.places.proofs.Firsts.{first_row_to}
use Rattle.places.proofs.Nearest.{good_down, best, nowhere}
use Rattle.rows.specs.declared.Rows.{Rows}
use Rattle.rows.specs.Told.{Tells}
use Rattle.rows.specs.Asked.{sizes_of, wanted, panel_at, Shows}
use Rattle.rows.specs.OneRow.{line_band, Leaves, OnRow}

-- the open line keeps its room beside a panel exactly when its band leaves it beside the panel's widest row
leaves_keeps : (z : Sizes) (S : Scene) (p : Placed) (around : Span) (n : Option Line) → ((l : Line) → n ≡ Some l → l.top ≤ p.y)
    → around ≡ line_band S.margins S.placed z.line n → Leaves z.line around p n → Keeps z S p n
leaves_keeps z S p around None above is h = tt
leaves_keeps z S p around (Some n) above is h =
    keeps_from z S p n (above n refl) (λ lt. subst (λ b. n.used ≤ room (beside p (widest p.form.extent (n.top + z.line - p.y)) b)) is (h lt))

keeps_leaves : (z : Sizes) (S : Scene) (p : Placed) (around : Span) (n : Option Line) → ((l : Line) → n ≡ Some l → l.top ≤ p.y)
    → around ≡ line_band S.margins S.placed z.line n → Keeps z S p n → Leaves z.line around p n
keeps_leaves z S p around None above is h = tt
keeps_leaves z S p around (Some n) above is h = λ lt.
    subst (λ b. n.used ≤ room (beside p (widest p.form.extent (n.top + z.line - p.y)) b)) (sym is) (keeps_to z S p n (above n refl) h lt)

-- one row y, on which b is free, for a panel w wide; the open line's band is `around`
module _ (rows : Rows) (m : Span) (L : ℕ) (current : Option Line) (around : Span) (side : Side) (f : Form) (y w : ℕ) (b : Span)
    (is_w : w ≡ f.wide)
    (is_around : (qs : List Placed) → Tells rows qs → around ≡ line_band m qs L current)
    (is_free : (qs : List Placed) → Tells rows qs → b ≡ free m qs y)
    (S : Scene) (c : Clear) (shows : Shows rows m current S) (low : first_row S (wanted side c f) ≤ y) where
  free_is : free S.margins S.placed y ≡ b
  free_is = ap (λ s. free s S.placed y) shows.margins ∙ sym (is_free S.placed shows.placed)

  near_is : near S (wanted side c f) y ≡ against side b w
  near_is = ap₂ (against side) free_is (sym is_w)

  around_is : around ≡ line_band S.margins S.placed L S.current
  around_is =
      is_around S.placed shows.placed
      ∙ ap (λ s. line_band s S.placed L current) (sym shows.margins)
      ∙ ap (line_band S.margins S.placed L) (sym shows.current)

  above : (l : Line) → S.current ≡ Some l → l.top ≤ y
  above l is = (first_row_to S (wanted side c f) y low).low.lines l.top (shows.settled.listed l is)

  pub too_tight : (x : ℕ) → x ≡ against side b w → (Leaves L around (panel_at side x y f) current → ⊥) → OnRow (sizes_of rows L) S (wanted side c f) y None
  too_tight x is_x never g =
      let there = keeps_leaves (sizes_of rows L) S (put (wanted side c f) (near S (wanted side c f) y) y) around S.current above around_is g.keeps in
      let here = subst (λ x. Leaves L around (panel_at side x y f) S.current) (near_is ∙ sym is_x) there in
      never (subst (Leaves L around (panel_at side x y f)) shows.current here)

  pub good_row : (x : ℕ) → x ≡ against side b w → 0 < f.wide → w ≤ room b → y + f.tall ≤ rows.height → Leaves L around (panel_at side x y f) current
      → OnRow (sizes_of rows L) S (wanted side c f) y (Some x)
  good_row x is_x some wide high leaves =
      let here = subst (Leaves L around (panel_at side x y f)) (sym shows.current) leaves in
      let there = subst (λ x. Leaves L around (panel_at side x y f) S.current) (is_x ∙ sym near_is) here in (
        is_x ∙ sym near_is,
        record {
          start = low;
          fits = subst (λ s. s.from + f.wide ≤ s.to) (sym free_is) (omega arith);
          keeps = leaves_keeps (sizes_of rows L) S (put (wanted side c f) (near S (wanted side c f) y) y) around S.current above around_is there;
          high = high;
        },
      )

-- the rows still in question
module _ (rows : Rows) (m : Span) (L : ℕ) (current : Option Line) (start : ℕ) (side : Side) (f : Form) where
  -- what was found out of row y
  abbrev pub RowTold : ℕ → Option ℕ → Type 0
  RowTold y r = (S : Scene) (c : Clear) → Shows rows m current S → first_row S (wanted side c f) ≤ y → OnRow (sizes_of rows L) S (wanted side c f) y r

  -- no row above y is good
  abbrev pub NoneAbove : ℕ → Type 0
  NoneAbove y = (S : Scene) (c : Clear) → Shows rows m current S → first_row S (wanted side c f) ≡ start → (y' : ℕ) → y' < y → Good (sizes_of rows L) S (wanted side c f) y' → ⊥

  -- the end of the rows in question is the best row so far, or is past the last
  abbrev pub KeptLow : ℕ → Option Place → Type 0
  KeptLow high (Some p) = (p.y ≡ high) × ((start ≤ p.y) × RowTold p.y (Some p.x))
  KeptLow high None = rows.height < high + f.tall

  pub none_up : (y : ℕ) → start ≤ y → y + f.tall ≤ rows.height → RowTold y None → NoneAbove (y + 1)
  none_up y low high told S c shows first y' lt g =
      told S c shows (omega arith) (good_down y shows.settled g (omega arith) high)

  pub halved : Real f → (low high : ℕ) (r : Option Place) → high ≤ low → NoneAbove low → KeptLow high r
      → (S : Scene) (c : Clear) → Shows rows m current S → first_row S (wanted side c f) ≡ start → Found (sizes_of rows L) S (wanted side c f) r
  halved real low high None le none kept S c shows first =
      nowhere shows.settled real (λ y g. let ends = g.high in none S c shows first y (omega arith) g)
  halved real low high (Some p) le none kept S c shows first =
      let at = kept.0 in
      let from = kept.1.0 in
      let row = kept.1.1 S c shows (omega arith) in
      subst (λ x. Best (sizes_of rows L) S (wanted side c f) x p.y) (sym row.0)
      (best shows.settled real row.1 (λ y lt. none S c shows first y (omega arith)))
