-- A new sheet. Assumes nothing.
use Rattle.std.proofs.Common.{◌≡◌, ℕ, ◌*◌, ◌≤◌, Bool, true, false, not, ◌&&◌, ltb, List, [], ◌∷◌, length, drop, is_some, Some, None, Option, sym, refl, ap, ◌∙◌, subst, arith, leb-true}
use Rattle.std.proofs.lemmas.Bool.{and_parts}
use Rattle.segment_tree.specs.LeafCount.{leaf_count}
use Rattle.shapes.specs.Form.{most_units}
use Rattle.reaches.specs.declared.reach.Reach.{Reach}
use Rattle.rows.specs.declared.Rows.{Rows}
use Rattle.rows.specs.Told.{Tells}
use Rattle.rows.specs.Made.{Laid, Bare}
use Rattle.rules.specs.declared.boxes.BoxRecord.{BoxRecord}
use Rattle.rules.specs.declared.refusals.Refusal.{Refusal}
use Rattle.rules.specs.declared.refusals.Refusal.TheVariants.{BadSize, FewCells}
use Rattle.rules.specs.Refusals.{first}
use Rattle.rules.specs.Account.{Size, fresh}
use Rattle.rules.specs.Runs.{start}
use Rattle.rules.proofs.Single.{some_none}
use Rattle.sheet.specs.declared.sizes.SheetSize.{SheetSize}
use Rattle.sheet.specs.declared.store.Store.{Store}
use Rattle.sheet.specs.View.{Kept}
use Rattle.sheet.specs.Stores.{view}
use Rattle.sheet.specs.Fresh.{most_line, within, new_refusal, size_of, used_of, empty_view, Fresh}

kept_empty : (z : Size) (rows : Rows) (list : List BoxRecord) (line : ℕ) → rows.width ≡ z.width → rows.height ≡ z.height → line ≡ z.line → length list ≡ z.places → Tells rows [] → Kept z [] (empty_view rows list line)
kept_empty z rows list line w h l p told = record {
  account = fresh;
  run = start;
  held = record {
    sized = record { width_is = w; height_is = h; line_is = l; places_is = p };
    tells = told;
    top_is = refl;
    bottoms_are = refl;
    boxed = record { used_is = refl; list_is = refl };
    cursor_is = refl;
    count_is = refl;
    para_is = refl;
    current_is = refl;
  };
}

module _ (z : SheetSize) (cells : List Reach) (list : List BoxRecord) (s : Store) (rows : Rows) where
  pub made_refused : (o : Option Refusal) → new_refusal z (length cells) ≡ o → is_some o ≡ true → view s ≡ empty_view rows list 1 → Bare cells rows → Fresh z cells list s
  made_refused None is t same bare = absurd (let x : ◌≡◌ {A = ℕ} 0 1 = cc in omega arith)
  made_refused (Some e) is t same bare = record {
    kept = subst (λ r. Kept (size_of r z (length list)) [] (view s)) (sym is)
        (subst (λ v. Kept (size_of (Some e) z (length list)) [] v) (sym same) (kept_empty (size_of (Some e) z (length list)) rows list 1 bare.width bare.height refl refl bare.told));
    list_is = ap (λ v. v.recs) same;
    rest = subst (λ r. drop (used_of r z.height) s.rows.tree.cells.now ≡ drop (used_of r z.height) cells) (sym is) (ap (λ v. v.rows.tree.cells.now) same ∙ bare.same);
  }

  -- what is not refused is in its ranges
  pub ranges : new_refusal z (length cells) ≡ None → (z.width ≤ most_units) × (z.height ≤ most_units) × (z.line ≤ most_line)
  ranges is = go (within z.width most_units && (within z.height most_units && within z.line most_line)) refl is
    where
      go : (b : Bool) → (within z.width most_units && (within z.height most_units && within z.line most_line)) ≡ b → first ((not b, BadSize) ∷ (ltb (length cells) (2 * leaf_count z.height), FewCells) ∷ []) ≡ None → (z.width ≤ most_units) × (z.height ≤ most_units) × (z.line ≤ most_line)
      go false e h = absurd (some_none refl h)
      go true e h =
          let a = and_parts _ _ e in
          let b = and_parts _ _ a.1 in
          (leb-true _ _ (and_parts _ _ a.0).1, leb-true _ _ (and_parts _ _ b.0).1, leb-true _ _ (and_parts _ _ b.1).1)

  pub made_new : (o : Option Refusal) → new_refusal z (length cells) ≡ o → is_some o ≡ false → view s ≡ empty_view rows list z.line → Laid cells z.width z.height rows → Fresh z cells list s
  made_new (Some e) is t same laid = absurd (let x : ◌≡◌ {A = ℕ} 0 1 = cc in omega arith)
  made_new None is t same laid =
      record {
        kept = subst (λ r. Kept (size_of r z (length list)) [] (view s)) (sym is)
            (subst (λ v. Kept (size_of None z (length list)) [] v) (sym same) (kept_empty (size_of None z (length list)) rows list z.line laid.width laid.height refl refl laid.told));
        list_is = ap (λ v. v.recs) same;
        rest = subst (λ r. drop (used_of r z.height) s.rows.tree.cells.now ≡ drop (used_of r z.height) cells) (sym is) (ap (λ v. drop (2 * leaf_count z.height) v.rows.tree.cells.now) same ∙ laid.rest);
      }
