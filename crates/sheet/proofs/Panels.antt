-- A panel call. Assumes nothing.
use Rattle.std.proofs.Common.{◌≡◌, ℕ, ◌+◌, ◌<◌, ◌≤◌, max, true, false, ltb, leb, List, ◌∷◌, length, set, Some, None, Option, sym, refl, ap, ◌∙◌, subst, arith, length-set, le-ltb, lt-ltb, leb-false}
use Rattle.shapes.specs.Form.{Real}
use Rattle.places.specs.declared.parts.Place.{Place}
use Rattle.places.specs.Panels.{Placed}
use Rattle.places.specs.Bands.{room}
use Rattle.places.specs.Permitted.{Scene, Wanted, put, Permitted}
use Rattle.places.specs.Tried.{first_row, panel_tops, greatest, bottoms}
use Rattle.places.specs.Theorems.{Found}
use Rattle.places.proofs.Firsts.{tops_from, permitted_row}
use Rattle.rows.specs.declared.Rows.{Rows}
use Rattle.rows.specs.Told.{Tells}
use Rattle.rows.specs.Fit.{Stays}
use Rattle.rows.specs.Asked.{sizes_of, Shows}
use Rattle.rules.specs.declared.boxes.BoxRecord.{BoxRecord}
use Rattle.rules.specs.declared.paragraphs.Paragraph.{Paragraph}
use Rattle.rules.specs.declared.refusals.Refusal.TheVariants.{NoParagraph, WidePanel, ListFull, NoPlace}
use Rattle.rules.specs.Account.{Size, rows_of, Account, scene, reserved, full, early_panel, panel_box}
use Rattle.rules.specs.Runs.{Event, panels, stands, refused, panel_refused, panel_none, panel_done}
use Rattle.rules.proofs.Orders.{orderly, settled}
use Rattle.sheet.specs.Clearance.{lowest, with_bottom}
use Rattle.sheet.specs.declared.clearance.Bottoms.{Bottoms}
use Rattle.sheet.specs.View.{View, Boxed, Held, Kept}
use Rattle.sheet.specs.Told.{Told}
use Rattle.sheet.proofs.Cleared.{lowest_is, with_is}
use Rattle.sheet.proofs.Moves.{move, stay, full_is, boxed_more}

pub panel_closed : (v : View) (o : Wanted) → v.para ≡ None → Told (panels o) (refused NoParagraph) v v
panel_closed v o t z past k =
    let p : k.account.para ≡ None = sym k.held.para_is ∙ t in
    stay k (panel_refused (simp p))

-- the paragraph of the account
pub para_of : {z : Size} {A : Account} {v : View} {p : Paragraph} → Held z A v → v.para ≡ Some p → A.para ≡ Some p
para_of h t = sym h.para_is ∙ t

pub panel_wide : (v : View) (p : Paragraph) (o : Wanted) → v.para ≡ Some p → room p.margins < o.form.wide → Told (panels o) (refused WidePanel) v v
panel_wide v p o t w z past k =
    let e : k.account.para ≡ Some p = para_of k.held t in
    let q : ltb (room p.margins) o.form.wide ≡ true = lt-ltb _ _ w in
    stay k (panel_refused (simp (e, q)))

pub panel_full : (v : View) (p : Paragraph) (o : Wanted) → v.para ≡ Some p → o.form.wide ≤ room p.margins → leb (length v.recs) (v.used + reserved v.current) ≡ true → Told (panels o) (refused ListFull) v v
panel_full v p o t w u z past k =
    let e : k.account.para ≡ Some p = para_of k.held t in
    let q : ltb (room p.margins) o.form.wide ≡ false = le-ltb _ _ w in
    let r : full z k.account ≡ true = full_is k.held u in
    stay k (panel_refused (simp (e, q, r)))

-- the panel passed the first tests
pub record Ready (v : View) (p : Paragraph) (o : Wanted) : Type 0 where
  pub is_open : v.para ≡ Some p
  pub narrow : o.form.wide ≤ room p.margins
  pub free : leb (length v.recs) (v.used + reserved v.current) ≡ false
  pub real : Real o.form

passed : {z : Size} {A : Account} {v : View} {p : Paragraph} {o : Wanted} → Held z A v → Ready v p o → early_panel z A o ≡ None
passed {z} {A} {v} {p} {o} h g =
    let e : A.para ≡ Some p = para_of h g.is_open in
    let q : ltb (room p.margins) o.form.wide ≡ false = le-ltb _ _ g.narrow in
    let r : full z A ≡ false = full_is h g.free in
    simp (e, q, r)

-- the sizes as the rows have them
pub sizes_are : {z : Size} {A : Account} {v : View} → Held z A v → sizes_of v.rows v.line ≡ rows_of z
sizes_are h = λ i. record { height = h.sized.height_is i; line = h.sized.line_is i }

-- what the rows answer of a place, for every scene that they show
abbrev pub Placing : View → Paragraph → Wanted → ℕ → Option Place → Type 0
Placing v p o start r = (S : Scene) → Shows v.rows p.margins v.current S → first_row S o ≡ start → Found (sizes_of v.rows v.line) S o r

found : {z : Size} {past : List Event} {v : View} (k : Kept z past v) (p : Paragraph) (o : Wanted) (start : ℕ) (r : Option Place) → start ≡ max (max v.top p.top) (lowest o.clear v.bottoms) → Placing v p o start r → Found (rows_of z) (scene k.account p) o r
found {z} {past} {v} k p o start r at f =
    let A = k.account in
    let h = k.held in
    let shows : Shows v.rows p.margins v.current (scene A p) = record { settled = settled z A p (orderly z past A k.run); placed = h.tells; margins = refl; current = sym h.current_is } in
    let low : lowest o.clear v.bottoms ≡ bottoms o.clear A.placed = ap (lowest o.clear) h.bottoms_are ∙ lowest_is o.clear A.placed in
    let top = h.top_is in
    let is : first_row (scene A p) o ≡ start = omega arith in
    subst (λ s. Found s (scene A p) o r) (sizes_are h) (f (scene A p) shows is)

pub panel_nowhere : (v : View) (p : Paragraph) (o : Wanted) (start : ℕ) → Ready v p o → start ≡ max (max v.top p.top) (lowest o.clear v.bottoms) → Placing v p o start None → Told (panels o) (refused NoPlace) v v
panel_nowhere v p o start g at f z past k = stay k (panel_none p (para_of k.held g.is_open) g.real (passed k.held g) (found k p o start None at f))

-- the fields after a panel stands with its top at row y
abbrev pub panel_view : View → Rows → BoxRecord → ℕ → Bottoms → View
panel_view v rows b y lows = record v { rows = rows; recs = set v.recs v.used b; used = v.used + 1; top = y; bottoms = lows }

-- a panel that stands is no higher than any before it
top_after : (z : Size) (A : Account) (p : Paragraph) {o : Wanted} {x y : ℕ} → Permitted (rows_of z) (scene A p) o x y → y ≡ max (max y (panel_tops A.placed)) (greatest A.lines)
top_after z A p {o} {x} {y} b =
    let low = tops_from (scene A p) y (permitted_row b).low in
    omega arith

pub panel_stands : (v : View) (rows : Rows) (p : Paragraph) (o : Wanted) (start : ℕ) (q : Place) (b : BoxRecord) (lows : Bottoms) → b ≡ panel_box o q.x q.y → lows ≡ with_bottom o.side (q.y + o.form.tall) v.bottoms → Ready v p o → start ≡ max (max v.top p.top) (lowest o.clear v.bottoms) → Placing v p o start (Some q)
    → Stays v.rows rows → ((qs : List Placed) → Tells v.rows qs → Tells rows (put o q.x q.y ∷ qs))
    → Told (panels o) (stands q.x q.y) v (panel_view v rows b q.y lows)
panel_stands v rows p o start q b lows is_b is_lows g at f same told z past k =
    let h = k.held in
    let A = k.account in
    let best = found k p o start (Some q) at f in
    let free = leb-false _ _ g.free in
    move k (panel_done p (para_of h g.is_open) g.real (passed h g) best) (record {
      sized = record { width_is = same.width ∙ h.sized.width_is; height_is = same.height ∙ h.sized.height_is; line_is = h.sized.line_is; places_is = length-set _ _ _ ∙ h.sized.places_is };
      tells = told A.placed h.tells;
      top_is = top_after z A p best.permitted;
      bottoms_are = is_lows ∙ ap (with_bottom o.side (q.y + o.form.tall)) h.bottoms_are ∙ with_is (put o q.x q.y) A.placed;
      boxed = subst (λ r. Boxed (r ∷ A.boxes) (v.used + 1) (set v.recs v.used b)) is_b (boxed_more A.boxes v.recs v.used b (omega arith) h.boxed);
      cursor_is = h.cursor_is;
      count_is = h.count_is;
      para_is = h.para_is;
      current_is = h.current_is;
    })
