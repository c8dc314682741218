-- A number's field is what is printed of the number, and nothing else is. Assumes nothing.
use Rattle.std.proofs.Common.{◌≡◌, ℕ, ◌+◌, ◌-◌, ◌*◌, ◌^◌, ◌<◌, ◌≤◌, Bool, true, false, cond, ◌&&◌, eqb, ltb, leb, List, [], ◌∷◌, length, get_or, Some, None, decimal, Option, sym, refl, ap, ◌∙◌, ⊎_elim, arith, rules}
use Rattle.std.proofs.lemmas.Str.Parse.{IsNumeralModel, numerals_by_fold}
use Rattle.std.proofs.lemmas.Fmt.{digits_decimal, digits_value-decimal, length-decimal-le, decimal_nonempty, first_decimal, decimal_digit, decimal-digits_value}
use Rattle.std.proofs.lemmas.Bool.{cond-true, cond-false, cases_lt, le-leb, le-ltb, lt-ltb, ne_eqb, eq-eqb, and_from, and_left, and_right, leb-true, ltb-false, eqb-false}
use Rattle.lexer.specs.Numerals.{digit, reads, capped, padded, numeral, largest, most_digits, NumeralsStand}

abbrev all_digits : List ℕ → Bool
all_digits [] = true
all_digits (b ∷ bs) = digit b && all_digits bs

-- the number that the digits bs write after those of n
abbrev onward : ℕ → List ℕ → ℕ
onward n [] = n
onward n (b ∷ bs) = onward (n * 10 + (b - 48)) bs

own : IsNumeralModel (λ ds. all_digits ds ≡ true) (onward 0)
own = numerals_by_fold _ (search rules) onward (search rules)

reads_is : (bs : List ℕ) (n : ℕ) → reads n bs ≡ cond (all_digits bs) (Some (onward n bs)) None
reads_is [] n = refl
reads_is (b ∷ bs) n =
    elim (digit b) as (λ (v : Bool). cond v (reads (n * 10 + (b - 48)) bs) None ≡ cond (v && all_digits bs) (Some (onward (n * 10 + (b - 48)) bs)) None)
    [ true ↦ reads_is bs (n * 10 + (b - 48)) | false ↦ refl ]

-- where a test leads away from None, it is false, and its other branch is the answer
kept : (t : Bool) (o : Option ℕ) (n : ℕ) → cond t None o ≡ Some n → (t ≡ false) × (o ≡ Some n)
kept true o n e = let z : ◌≡◌ {A = ℕ} 0 1 = cc in absurd (omega arith)
kept false o n e = (refl, e)

passed : (t : Bool) (m n : ℕ) → cond t (Some m) None ≡ Some n → (t ≡ true) × (m ≡ n)
passed true m n e = (refl, cc)
passed false m n e = let z : ◌≡◌ {A = ℕ} 0 1 = cc in absurd (omega arith)

-- a field of the form of a number: 1 to 5 bytes, and no zero before others
record Formed (bs : List ℕ) : Type 0 where
  some : 0 < length bs
  few : length bs ≤ most_digits
  bare : padded bs ≡ false

formed_numeral : (bs : List ℕ) → Formed bs → numeral bs ≡ capped (reads 0 bs)
unfolding numeral
formed_numeral bs f = cond-false _ _ _ (ne_eqb (length bs) 0 (λ e. omega arith)) ∙ cond-false _ _ _ (le-ltb _ _ f.few) ∙ cond-false _ _ _ f.bare

numeral_formed : (bs : List ℕ) (n : ℕ) → numeral bs ≡ Some n → Formed bs × (capped (reads 0 bs) ≡ Some n)
unfolding numeral
numeral_formed bs n e =
    let a = kept (eqb (length bs) 0) _ n e in
    let b = kept (ltb most_digits (length bs)) _ n a.1 in
    let d = kept (padded bs) _ n b.1 in
    let nonzero = eqb-false (length bs) 0 a.0 in
    let some : 0 < length bs = ⊎_elim (λ h. h) (λ h. absurd (nonzero (omega arith))) (cases_lt 0 (length bs)) in
    (record { some = some; few = ltb-false _ _ b.0; bare = d.0 }, d.1)

decimal_bare : (n : ℕ) → n < 2 ^ 64 → padded (decimal n) ≡ false
decimal_bare n h =
    ⊎_elim
    (λ small. let e = ap length (decimal_digit n small) in and_right _ _ (le-ltb 1 (length (decimal n)) (omega arith)))
    (λ big. let f = first_decimal n (omega arith) h in and_left _ _ (ne_eqb (get_or (decimal n) 0 0) 48 (λ e. omega arith)))
    (cases_lt n 10)

-- what is printed is read back
printed_read : (n : ℕ) → n ≤ largest → numeral (decimal n) ≡ Some n
printed_read n h =
    let big : n < 2 ^ 64 = omega arith in
    let few = length-decimal-le 5 n (omega arith) (omega arith) big in
    let r : reads 0 (decimal n) ≡ Some n = reads_is (decimal n) 0 ∙ cond-true _ _ _ (digits_decimal own n big) ∙ ap (λ k. Some k) (digits_value-decimal own n big) in
    formed_numeral (decimal n) (record { some = decimal_nonempty n big; few = few; bare = decimal_bare n big }) ∙ ap capped r ∙ cond-true _ _ _ (le-leb _ _ h)

capped_is : (o : Option ℕ) (n : ℕ) → capped o ≡ Some n → (o ≡ Some n) × (n ≤ largest)
capped_is None n e = let z : ◌≡◌ {A = ℕ} 0 1 = cc in absurd (omega arith)
capped_is (Some m) n e = let p = passed (leb m largest) m n e in (ap (λ k. Some k) p.1, omega (arith, leb-true _ _ p.0, p.1))

-- a zero before others is no form of a number, so a field that begins with one has one byte
single : (bs : List ℕ) → Formed bs → get_or bs 0 0 ≡ 48 → length bs ≡ 1
single bs f zero-first =
    ⊎_elim
    (λ long. let bad = sym (and_from _ _ (eq-eqb _ _ zero-first) (lt-ltb 1 (length bs) long)) ∙ f.bare in let z : ◌≡◌ {A = ℕ} 0 1 = cc in absurd (omega arith))
    (λ short. omega (arith, f.some))
    (cases_lt 1 (length bs))

-- what is read was printed
read_printed : (bs : List ℕ) (n : ℕ) → numeral bs ≡ Some n → (bs ≡ decimal n) × (n ≤ largest)
read_printed bs n e =
    let f = numeral_formed bs n e in
    let r = capped_is (reads 0 bs) n f.1 in
    let v = passed (all_digits bs) (onward 0 bs) n (sym (reads_is bs 0) ∙ r.0) in
    let w = decimal-digits_value own bs v.0 f.0.some (single bs f.0) (omega (arith, v.1, r.1)) in
    (sym w ∙ ap decimal v.1, r.1)

pub numerals_stand : NumeralsStand
numerals_stand = (printed_read, read_printed)
