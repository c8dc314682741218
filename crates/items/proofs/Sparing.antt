-- What is kept over one call after another. Assumes nothing.
use Rattle.std.proofs.Common.{◌≡◌, ℕ, ◌*◌, drop, sym, refl, ◌∙◌, subst}
use Rattle.rows.specs.Fit.{Stays}
use Rattle.rows.specs.declared.Rows.{Rows}
use Rattle.sheet.specs.declared.sheet.Sheet.{Sheet}
use Rattle.sheet.specs.Sheets.{fields}
use Rattle.sheet.proofs.Moves.{rest_then}
use Rattle.items.specs.Spares.{Spares}

pub stays_none : (s : Rows) → Stays s s
stays_none s = record { width = refl; height = refl; tree = record { count = refl; size = refl; rest = refl } }

pub stays_is : (s t : Rows) → t ≡ s → Stays s t
stays_is s t is = subst (Stays s) (sym is) (stays_none s)

pub stays_then : (s t u : Rows) → Stays s t → Stays t u → Stays s u
stays_then s t u a b = record {
  width = b.width ∙ a.width;
  height = b.height ∙ a.height;
  tree = record {
    count = b.tree.count ∙ a.tree.count;
    size = b.tree.size ∙ a.tree.size;
    rest = subst (λ (n : ℕ). drop (2 * n) u.tree.cells.now ≡ drop (2 * n) t.tree.cells.now) a.tree.size b.tree.rest ∙ a.tree.rest;
  };
}

pub spares_then : (s t u : Sheet) → Spares s t → Spares t u → Spares s u
spares_then s t u a b = record { list = rest_then (fields s) (fields t) (fields u) a.list b.list; rows = stays_then s.store.rows t.store.rows u.store.rows a.rows b.rows }
