-- Opening a paragraph. Assumes nothing.
use Rattle.std.proofs.Common.{◌≡◌, ℕ, ◌+◌, ◌<◌, ◌≤◌, max, Bool, true, false, ◌&&◌, ltb, leb, ◌∷◌, is_some, Some, sym, ap, ◌∙◌, subst, ap₂, arith, le-leb}
use borrow.Author.Tests.{lt-leb}
use Rattle.shapes.specs.declared.sides.Clear.{Clear}
use Rattle.places.specs.declared.parts.Span.{Span}
use Rattle.rules.specs.declared.refusals.Refusal.TheVariants.{AlreadyOpen, BadMargins, ManyParagraphs}
use Rattle.rules.specs.Account.{Size, Account, most_paragraphs, opening_top}
use Rattle.rules.specs.Runs.{opens, opened, refused, event, open_refused, open_done}
use Rattle.sheet.specs.Clearance.{lowest}
use Rattle.sheet.specs.View.{View, Held, Kept}
use Rattle.sheet.specs.Told.{Told}
use Rattle.sheet.proofs.Cleared.{lowest_is}
use Rattle.sheet.proofs.Moves.{move, stay, open_is, idle}

pub open_taken : (v : View) (m : Span) (c : Clear) → is_some v.para ≡ true → Told (opens m c) (refused AlreadyOpen) v v
open_taken v m c t z past k =
    let p : is_some k.account.para ≡ true = open_is k.held t in
    stay k (open_refused (simp p))

pub open_many : (v : View) (m : Span) (c : Clear) → is_some v.para ≡ false → most_paragraphs ≤ v.count → Told (opens m c) (refused ManyParagraphs) v v
open_many v m c t n z past k =
    let p : is_some k.account.para ≡ false = open_is k.held t in
    let q : leb most_paragraphs k.account.count ≡ true = le-leb _ _ (omega (arith, k.held.count_is)) in
    stay k (open_refused (simp (p, q)))

-- the margins' test, by the fields and by the size
margins_are : {z : Size} {A : Account} {v : View} {b : Bool} (m : Span) → Held z A v → (ltb m.from m.to && leb m.to v.rows.width) ≡ b → (ltb m.from m.to && leb m.to z.width) ≡ b
margins_are m h t = sym (ap (λ w. ltb m.from m.to && leb m.to w) h.sized.width_is) ∙ t

pub open_narrow : (v : View) (m : Span) (c : Clear) → is_some v.para ≡ false → v.count < most_paragraphs → (ltb m.from m.to && leb m.to v.rows.width) ≡ false → Told (opens m c) (refused BadMargins) v v
open_narrow v m c t n bad z past k =
    let p : is_some k.account.para ≡ false = open_is k.held t in
    let q : leb most_paragraphs k.account.count ≡ false = lt-leb _ _ (omega (arith, k.held.count_is)) in
    let r : (ltb m.from m.to && leb m.to z.width) ≡ false = margins_are m k.held bad in
    stay k (open_refused (simp (p, q, r)))

-- the fields after opening at row t
abbrev pub opened_view : View → Span → ℕ → View
opened_view v m t = record v { cursor = t; count = v.count + 1; para = Some (record { number = v.count + 1; margins = m; top = t }) }

pub opens_at : (v : View) (m : Span) (c : Clear) (t : ℕ) → is_some v.para ≡ false → v.count < most_paragraphs → (ltb m.from m.to && leb m.to v.rows.width) ≡ true → t ≡ max v.cursor (lowest c v.bottoms) → Told (opens m c) (opened (v.count + 1)) v (opened_view v m t)
opens_at v m c t shut n good at z past k =
    let h = k.held in
    let p : is_some k.account.para ≡ false = open_is h shut in
    let q : leb most_paragraphs k.account.count ≡ false = lt-leb _ _ (omega (arith, h.count_is)) in
    let r : (ltb m.from m.to && leb m.to z.width) ≡ true = margins_are m h good in
    let low : lowest c v.bottoms ≡ _ = ap (lowest c) h.bottoms_are ∙ lowest_is c k.account.placed in
    let top : t ≡ opening_top k.account c = at ∙ ap₂ max h.cursor_is low in
    let e : v.count + 1 ≡ k.account.count + 1 = ap (λ n. n + 1) h.count_is in
    subst (λ i. Kept z (event (opens m c) (opened i) ∷ past) (opened_view v m t)) (sym e)
    (move k (open_done (simp (p, q, r))) (idle h top e (λ i. Some (record { number = e i; margins = m; top = top i })) h.current_is))
