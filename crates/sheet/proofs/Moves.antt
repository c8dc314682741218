-- One call more, as one step more of the account. Assumes nothing.
use Rattle.std.proofs.Common.{◌≡◌, ℕ, ◌+◌, ◌-◌, ◌<◌, ◌≤◌, Bool, leb, List, [], ◌∷◌, ◌++◌, length, drop, set, is_some, Some, None, Option, Ok, Err, Result, sym, refl, ap, ◌∙◌, arith, drop-drop}
use mathlib.Core.List.{reverse-cons}
use mathlib.Core.Logic.{∥∥₁_map}
use Rattle.std.proofs.lemmas.List.{take_more_set}
use Rattle.std.specs.Option.{ok_or}
use Rattle.std.specs.Result.{result_ok, IsErrAnd}
use Rattle.std.proofs.lemmas.Result.{err_from_is_err_and}
use Rattle.rules.specs.declared.boxes.BoxRecord.{BoxRecord}
use Rattle.places.specs.declared.parts.Line.{Line}
use Rattle.rules.specs.declared.paragraphs.Paragraph.{Paragraph}
use Rattle.rules.specs.declared.refusals.Refusal.{Refusal}
use Rattle.rules.specs.Account.{Size, Account, reserved, full}
use Rattle.rules.specs.Runs.{Call, Answer, Event, event, Step, next}
use Rattle.sheet.specs.View.{View, Boxed, Held, Kept, Reached, Rest}
use Rattle.sheet.specs.Told.{Told}
use Rattle.sheet.specs.declared.store.Store.{Store}
use Rattle.sheet.specs.Stores.{view, Keeps, Sets}

pub move : {z : Size} {past : List Event} {v w : View} {c : Call} {a : Answer} {B : Account} → (k : Kept z past v) → Step z k.account c a B → Held z B w → Kept z (event c a ∷ past) w
move {B} k s h = record { account = B; run = next _ k.run s; held = h }

-- a call that leaves all as it was
pub stay : {z : Size} {past : List Event} {v : View} {c : Call} {a : Answer} → (k : Kept z past v) → Step z k.account c a k.account → Kept z (event c a ∷ past) v
stay k s = record { account = k.account; run = next _ k.run s; held = k.held }

-- a call that ends where nothing is found is refused as it says
pub none_refused : {T U : Type 0} (o : Option T) (q : Result T Refusal) (r : Result U Refusal) (e x : Refusal) → q ≡ ok_or o e → q ≡ Err x → IsErrAnd r (λ y. y ≡ x) → (o ≡ None) × (r ≡ Err e)
none_refused None q r e x is err p =
    let y = err_from_is_err_and r p in
    let z = y.2 in
    let s : x ≡ e = cc in
    (refl, y.1 ∙ ap Err (z ∙ s))
none_refused (Some t) q r e x is err p = let z : ◌≡◌ {A = ℕ} 0 1 = cc in absurd (omega arith)

pub some_found : {T : Type 0} (o : Option T) (q : Result T Refusal) (x : T) → o ≡ result_ok q → q ≡ Ok x → o ≡ Some x
some_found o q x is ok = is ∙ ap result_ok ok

-- some calls led to v, and one more leads to w
pub onward : {v w : View} (c : Call) (a : Answer) → Reached v → Told c a v w → Reached w
onward c a r f = ∥∥₁_map r (λ x. record { size = x.size; past = event c a ∷ x.past; kept = f x.size x.past x.kept })

-- the fields say whether a paragraph is open, and whether the list is full
pub open_is : {z : Size} {A : Account} {v : View} {b : Bool} → Held z A v → is_some v.para ≡ b → is_some A.para ≡ b
open_is h t = ap is_some (sym h.para_is) ∙ t

pub full_is : {z : Size} {A : Account} {v : View} {b : Bool} → Held z A v → leb (length v.recs) (v.used + reserved v.current) ≡ b → full z A ≡ b
full_is h t = sym (λ i. leb (h.sized.places_is i) (h.boxed.used_is i + reserved (h.current_is i))) ∙ t

-- one box more
pub boxed_more : (boxes recs : List BoxRecord) (used : ℕ) (b : BoxRecord) → used < length recs → Boxed boxes used recs → Boxed (b ∷ boxes) (used + 1) (set recs used b)
boxed_more boxes recs used b lt h = record {
  used_is = omega (arith, h.used_is);
  list_is = take_more_set recs used b lt ∙ ap (λ l. l ++ (b ∷ [])) h.list_is ∙ sym (reverse-cons b boxes);
}

-- where no panel, line or box is added
pub idle : {z : Size} {A : Account} {v : View} {c c' n n' : ℕ} {p p' : Option Paragraph} {l l' : Option Line} → Held z A v → c' ≡ c → n' ≡ n → p' ≡ p → l' ≡ l → Held z (record A { cursor = c; count = n; para = p; current = l }) (record v { cursor = c'; count = n'; para = p'; current = l' })
idle h c n p l = record {
  sized = h.sized;
  tells = h.tells;
  top_is = h.top_is;
  bottoms_are = h.bottoms_are;
  boxed = h.boxed;
  cursor_is = c;
  count_is = n;
  para_is = p;
  current_is = l;
}

-- The records past those in use

drop_on : (m n : ℕ) (xs ys : List BoxRecord) → m ≤ n → drop m xs ≡ drop m ys → drop n xs ≡ drop n ys
drop_on m n xs ys le e =
    let is : n ≡ m + (n - m) = omega arith in
    ap (λ k. drop k xs) is ∙ sym (drop-drop (n - m) m xs) ∙ ap (drop (n - m)) e ∙ drop-drop (n - m) m ys ∙ ap (λ k. drop k ys) (sym is)

pub rest_then : (v s w : View) → Rest v s → Rest s w → Rest v w
rest_then v s w a b = let g = a.grows in let h = b.grows in record { grows = omega arith; keeps = b.keeps ∙ drop_on s.used w.used s.recs v.recs h a.keeps }

keeps_then : (r s t : Store) → Keeps r s → Keeps s t → Keeps r t
keeps_then r s t a b = record { named = b.named ∙ a.named; rest = rest_then (view r) (view s) (view t) a.rest b.rest }

pub sets_then : (r s t : Store) → Sets r s → Sets s t → Sets r t
sets_then r s t a b = record { keeps = keeps_then r s t a.keeps b.keeps; rows = b.rows ∙ a.rows; para = b.para ∙ a.para }
