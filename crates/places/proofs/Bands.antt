-- A span lies in a band exactly when it lies between the margins and is off each part that narrows the band. Assumes nothing.
use Rattle.std.proofs.Common.{◌≡◌, ℕ, zero, suc, ◌+◌, ◌<◌, ◌≤◌, ltb, List, [], ◌∷◌, sym, subst, ⊎_elim, arith}
use Rattle.std.proofs.lemmas.Bool.{ltb-true, lt-ltb, cases_eq, cond-true, cond_both}
use Rattle.shapes.specs.declared.sides.Side.{Side}
use Rattle.shapes.specs.declared.sides.Side.TheVariants.{Left, Right}
use Rattle.places.specs.declared.parts.Span.{Span}
use Rattle.places.specs.Panels.{Placed, Among, here, there, area_on}
use Rattle.places.specs.Bands.{span, room, taken, narrow, beside, row_band, band}
use Rattle.places.specs.Theorems.{Within, Off, OffAreas, BandIsLeft}

pub itself : (b : Span) → Within b b
itself b = record { low = omega arith; high = omega arith }

pub within_trans : (a b c : Span) → Within a b → Within b c → Within a c
within_trans a b c h k = record { low = omega arith; high = omega arith }

-- two spans that lie in one another are one
pub same_span : (a b c d : ℕ) → a ≡ c → b ≡ d → span a b ≡ span c d
same_span a b c d p q = cc

pub within_same : (b c : Span) → Within b c → Within c b → b ≡ c
within_same b c h k = same_span b.from b.to c.from c.to (omega arith) (omega arith)

pub within_room : (c b : Span) → Within c b → room c ≤ room b
within_room c b h = omega arith

-- c is off the panel q where it is e wide
abbrev pub OffPart : Span → Placed → ℕ → Type 0
OffPart c q e = 0 < e → Off q.side c (taken q e)

pub off_same : (c : Span) (q : Placed) (e e' : ℕ) → e ≡ e' → Off q.side c (taken q e) → Off q.side c (taken q e')
off_same c q e e' is h = subst (λ n. Off q.side c (taken q n)) is h

-- one span less
narrow_in : (s : Side) (c b a : Span) → Within c (narrow s b a) → Within c b
narrow_in Left c b a h = record { low = omega arith; high = omega arith }
narrow_in Right c b a h = record { low = omega arith; high = omega arith }

narrow_off : (s : Side) (c b a : Span) → Within c (narrow s b a) → Off s c a
narrow_off Left c b a h = omega arith
narrow_off Right c b a h = omega arith

narrow_from : (s : Side) (c b a : Span) → Within c b → Off s c a → Within c (narrow s b a)
narrow_from Left c b a h o = record { low = omega arith; high = omega arith }
narrow_from Right c b a h o = record { low = omega arith; high = omega arith }

-- one panel
pub beside_in : (c : Span) (q : Placed) (e : ℕ) (b : Span) → Within c (beside q e b) → Within c b
beside_in c q e b =
    cond_both (ltb 0 e) (narrow q.side b (taken q e)) b (λ s. Within c s → Within c b)
    (λ _. narrow_in q.side c b (taken q e))
    (λ _ h. h)

pub beside_off : (c : Span) (q : Placed) (e : ℕ) (b : Span) → Within c (beside q e b) → OffPart c q e
beside_off c q e b h lt =
    let is = cond-true (ltb 0 e) (narrow q.side b (taken q e)) b (lt-ltb 0 e lt) in
    narrow_off q.side c b (taken q e) (subst (λ s. Within c s) is h)

pub beside_from : (c : Span) (q : Placed) (e : ℕ) (b : Span) → Within c b → OffPart c q e → Within c (beside q e b)
beside_from c q e b h o =
    cond_both (ltb 0 e) (narrow q.side b (taken q e)) b (λ s. Within c s)
    (λ t. narrow_from q.side c b (taken q e) h (o (ltb-true 0 e t)))
    (λ _. h)

-- the panels of a row
pub row_in : (on : Placed → ℕ → ℕ) (c m : Span) (qs : List Placed) (k : ℕ) → Within c (row_band on m qs k) → Within c m
row_in on c m [] k h = h
row_in on c m (q ∷ qs) k h = row_in on c m qs k (beside_in c q (on q k) (row_band on m qs k) h)

pub row_off : (on : Placed → ℕ → ℕ) (c m : Span) (qs : List Placed) (k : ℕ) → Within c (row_band on m qs k) → (q : Placed) → Among q qs → OffPart c q (on q k)
row_off on c m [] k h q a = elim a [ ]
row_off on c m (p ∷ qs) k h q here = beside_off c q (on q k) (row_band on m qs k) h
row_off on c m (p ∷ qs) k h q (there a) = row_off on c m qs k (beside_in c p (on p k) (row_band on m qs k) h) q a

pub row_from : (on : Placed → ℕ → ℕ) (c m : Span) (qs : List Placed) (k : ℕ) → Within c m → ((q : Placed) → Among q qs → OffPart c q (on q k)) → Within c (row_band on m qs k)
row_from on c m [] k h f = h
row_from on c m (q ∷ qs) k h f = beside_from c q (on q k) (row_band on m qs k) (row_from on c m qs k h (λ p a. f p (there a))) (f q here)

-- the rows of a band
pub band_in : (c m : Span) (qs : List Placed) (t n : ℕ) → Within c (band m qs t n) → Within c m
band_in c m qs t zero h = h
band_in c m qs t (suc n) h = band_in c m qs (t + 1) n (row_in area_on c (band m qs (t + 1) n) qs t h)

pub band_off : (c m : Span) (qs : List Placed) (t n : ℕ) → Within c (band m qs t n) → OffAreas c qs t n
band_off c m qs t zero h k l u q a = absurd (omega arith)
band_off c m qs t (suc n) h k l u q a =
    ⊎_elim
    (λ e. subst (λ i. OffPart c q (area_on q i)) (sym e) (row_off area_on c (band m qs (t + 1) n) qs t h q a))
    (λ ne. band_off c m qs (t + 1) n (row_in area_on c (band m qs (t + 1) n) qs t h) k (omega arith) (omega arith) q a)
    (cases_eq k t)

pub band_from : (c m : Span) (qs : List Placed) (t n : ℕ) → Within c m → OffAreas c qs t n → Within c (band m qs t n)
band_from c m qs t zero h f = h
band_from c m qs t (suc n) h f =
    row_from area_on c (band m qs (t + 1) n) qs t
    (band_from c m qs (t + 1) n h (λ k l u. f k (omega arith) (omega arith)))
    (f t (omega arith) (omega arith))

pub band_is_left : BandIsLeft
band_is_left c m qs t n = (λ h. (band_in c m qs t n h, band_off c m qs t n h), band_from c m qs t n)
