-- Words and lines. Assumes nothing.
use Rattle.std.proofs.Common.{◌≡◌, ℕ, ◌+◌, ◌<◌, ◌≤◌, max, true, false, leb, List, ◌∷◌, length, set, Some, None, Ok, Err, Option, sym, refl, ap, ◌∙◌, subst, arith, length-set}
use Rattle.places.specs.declared.parts.Span.{Span}
use Rattle.places.specs.declared.parts.Line.{Line}
use Rattle.places.specs.Panels.{Placed}
use Rattle.places.specs.Bands.{room, band}
use Rattle.places.specs.Permitted.{Scene}
use Rattle.places.specs.Theorems.{Sought}
use Rattle.rows.specs.Told.{Tells}
use Rattle.rows.specs.Asked.{sizes_of}
use Rattle.rules.specs.declared.boxes.LineBox.{LineBox}
use Rattle.rules.specs.declared.paragraphs.Paragraph.{Paragraph}
use Rattle.rules.specs.declared.refusals.Refusal.TheVariants.{WideWord, ListFull, NoPlace}
use Rattle.rules.specs.Account.{Size, rows_of, Account, scene, reserved, line_box, shut_boxes, below, start_row}
use Rattle.rules.specs.Words.{Apart, longer, with_word, with_line, word_joins, word_opens, word_wide, word_full, word_none}
use Rattle.rules.proofs.Single.{same_some}
use Rattle.sheet.specs.View.{View, Boxed, Held, start_of}
use Rattle.sheet.specs.Told.{Worded, WordTold}
use Rattle.sheet.specs.Steps.{Joined, box_at, line_at, shut_by, shut_at, Closed}
use Rattle.sheet.proofs.Moves.{full_is, boxed_more, idle}
use Rattle.sheet.proofs.Panels.{sizes_are}

-- The open line

-- a line's band, by the fields and by the size
band_is : {z : Size} {A : Account} {v : View} (h : Held z A v) (m : Span) (t : ℕ) → band m A.placed t v.line ≡ band m A.placed t z.line
band_is {A} h m t = ap (λ n. band m A.placed t n) h.sized.line_is

pub apart : {z : Size} {A : Account} {v : View} (p : Paragraph) (sp a : ℕ) → Held z A v → Joined v p.margins sp a None → Apart z p sp A a
apart {z} {A} {v} p sp a h none l j =
    none l A.placed (h.current_is ∙ j.is_open) h.tells (subst (λ b. l.used + sp + a ≤ room b) (sym (band_is h p.margins l.top)) j.room)

-- the fields with another open line
abbrev pub with_current : View → Line → View
with_current v l = record v { current = Some l }

pub held_word : {z : Size} {A : Account} {v : View} (l : Line) → Held z A v → Held z (with_word A l) (with_current v l)
held_word l h = idle h h.cursor_is h.count_is h.para_is refl

pub word_too_wide : (v : View) (p : Paragraph) (sp a : ℕ) → room p.margins < a → WordTold p sp a (Err WideWord) v v
word_too_wide v p sp a lt z A h = (word_wide lt, h)

pub joins : (v : View) (p : Paragraph) (sp a : ℕ) (k : Line) → a ≤ room p.margins → Joined v p.margins sp a (Some k) → WordTold p sp a (Ok tt) v (with_current v k)
joins v p sp a k le (l, is, e, fits) z A h =
    let wide : l.used + sp + a ≤ room (band p.margins A.placed l.top z.line) = subst (λ b. l.used + sp + a ≤ room b) (band_is h p.margins l.top) (fits A.placed h.tells) in
    subst (λ x. Worded z p sp A a (Ok tt) (with_current v x)) (sym e)
    (with_word A (longer sp a l), word_joins l le (record { is_open = sym h.current_is ∙ is; room = wide }), held_word (longer sp a l) h)

-- A line closes

-- the account with its open line closed
abbrev pub shut : Size → Account → Paragraph → Option Line → Account
shut z A p o = record A { boxes = shut_boxes z A p o; cursor = below z A.cursor o; current = None }

shut_held : {z : Size} {A : Account} {v : View} (p : Paragraph) (x : ℕ) (o : Option Line) → v.current ≡ o → v.used + reserved o ≤ length v.recs
    → ((l : Line) → o ≡ Some l → x ≡ (band p.margins A.placed l.top z.line).from) → Held z A v → Held z (shut z A p o) (shut_at x o v)
shut_held {z} {A} {v} p x (Some l) e few edge h =
    let b : line_at x l ≡ line_box z A p l = ap (λ n. line_at n l) (edge l refl) in
    record {
      sized = record { width_is = h.sized.width_is; height_is = h.sized.height_is; line_is = h.sized.line_is; places_is = length-set _ _ _ ∙ h.sized.places_is };
      tells = h.tells;
      top_is = h.top_is;
      bottoms_are = h.bottoms_are;
      boxed = subst (λ r. Boxed (r ∷ A.boxes) (v.used + 1) (set v.recs v.used (line_at x l))) b (boxed_more A.boxes v.recs v.used (line_at x l) (omega arith) h.boxed);
      cursor_is = ap (λ n. l.top + n) h.sized.line_is;
      count_is = h.count_is;
      para_is = h.para_is;
      current_is = refl;
    }
shut_held p x None e few edge h = idle h h.cursor_is h.count_is h.para_is e

pub held_shut : {z : Size} {A : Account} (v w : View) (p : Paragraph) → Held z A v → v.used + reserved v.current ≤ length v.recs → Closed v p.margins w → Held z (shut z A p A.current) w
held_shut {z} {A} v w p h few c =
    let edge : (l : Line) → v.current ≡ Some l → c.x ≡ (band p.margins A.placed l.top z.line).from = λ l is. c.edge l A.placed is h.tells ∙ ap (λ b. b.from) (band_is h p.margins l.top) in
    let x = shut_held {z = z} {A = A} {v = v} p c.x v.current refl few edge h in
    subst (λ o. Held z (shut z A p o) w) h.current_is (subst (λ u. Held z (shut z A p v.current) u) (sym c.after) x)

-- A line begins

pub word_full_up : (v : View) (p : Paragraph) (sp a : ℕ) → a ≤ room p.margins → Joined v p.margins sp a None → leb (length v.recs) (v.used + reserved v.current) ≡ true → WordTold p sp a (Err ListFull) v v
word_full_up v p sp a le none t z A h = (word_full le (apart p sp a h none) (full_is h t), h)

-- what the rows answer of a line's row, for every scene that they tell
abbrev pub Seeking : View → Paragraph → ℕ → ℕ → Option ℕ → Type 0
Seeking v p start a r = (S : Scene) → Tells v.rows S.placed → S.margins ≡ p.margins → Sought (sizes_of v.rows v.line) S start a r

start_is : {z : Size} {A : Account} {v : View} (h : Held z A v) (o : Option Line) → start_of v.line v.cursor o ≡ below z A.cursor o
start_is h (Some l) = ap (λ n. l.top + n) h.sized.line_is
start_is h None = h.cursor_is

sought : {z : Size} {A : Account} {v : View} (h : Held z A v) (p : Paragraph) (start a : ℕ) (r : Option ℕ) → start ≡ start_of v.line v.cursor v.current → Seeking v p start a r → Sought (rows_of z) (scene A p) (start_row z A) a r
sought {z} {A} {v} h p start a r at f =
    let is : start ≡ start_row z A = at ∙ start_is h v.current ∙ ap (λ o. below z A.cursor o) h.current_is in
    subst (λ s. Sought s (scene A p) (start_row z A) a r) (sizes_are h) (subst (λ n. Sought (sizes_of v.rows v.line) (scene A p) n a r) is (f (scene A p) h.tells refl))

pub word_nowhere : (v : View) (p : Paragraph) (sp a start : ℕ) → a ≤ room p.margins → Joined v p.margins sp a None → leb (length v.recs) (v.used + reserved v.current) ≡ false → start ≡ start_of v.line v.cursor v.current → Seeking v p start a None → WordTold p sp a (Err NoPlace) v v
word_nowhere v p sp a start le none t at f z A h = (word_none le (apart p sp a h none) (full_is h t) (sought h p start a None at f), h)

-- the fields after a line begins at row t
abbrev pub with_top : View → ℕ → Line → View
with_top v t l = record v { top = t; current = Some l }

abbrev pub begun : ℕ → ℕ → Line
begun t a = record { top = t; used = a; words = 1 }

pub begins : (v w : View) (p : Paragraph) (sp a start t top : ℕ) → a ≤ room p.margins → v.used + reserved v.current ≤ length v.recs → Joined v p.margins sp a None → leb (length v.recs) (v.used + reserved v.current) ≡ false → start ≡ start_of v.line v.cursor v.current → Seeking v p start a (Some t) → Closed v p.margins w → top ≡ max w.top t → WordTold p sp a (Ok tt) v (with_top w top (begun t a))
begins v w p sp a start t top le few none nf at f c is z A h =
    let x = held_shut v w p h few c in (
      with_line z p A a t,
      word_opens t le (apart p sp a h none) (full_is h nf) (sought h p start a (Some t) at f),
      record { sized = x.sized; tells = x.tells; top_is = (let e = x.top_is in omega arith); bottoms_are = x.bottoms_are; boxed = x.boxed; cursor_is = x.cursor_is; count_is = x.count_is; para_is = x.para_is; current_is = refl },
    )

-- what closing does, by the band that it finds
pub closed_at : (v : View) (m : Span) (l : Line) (b : Span) (x : LineBox) → v.current ≡ Some l → x ≡ box_at b.from l → ((qs : List Placed) → Tells v.rows qs → b ≡ band m qs l.top v.line) → Closed v m (shut_by x l v)
closed_at v m l b x e is f = record {
  x = b.from;
  edge = λ k qs i t. ap (λ s. s.from) (f qs t) ∙ ap (λ n. (band m qs n.top v.line).from) (same_some e i);
  after = ap (λ y. shut_by y l v) is ∙ ap (λ o. shut_at b.from o v) (sym e);
}
