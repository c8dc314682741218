-- Bytes printed into memory that is just as long. Assumes nothing.
use Rattle.std.proofs.Common.{◌≡◌, ℕ, ◌≤◌, min, Bool, true, false, cond, List, [], ◌++◌, length, take, drop, Ok, Err, Result, refl, ap, ◌∙◌, is_ok, append-nil, arith, le-leb, leb-true}
use lib.Seq.{take-append-le}
use Rattle.std.proofs.lemmas.List.{drop_all, take_all}
use Rattle.printing.specs.declared.outputs.ShortOutput.{ShortOutput}
use Rattle.printing.specs.Outputs.{fits, print_answer, print_kept}

-- no longer than what is printed: as long, or that held at a greatest number
pub no_longer_held : (a b c g : ℕ) → a ≡ b → b ≡ min g c → a ≤ c
no_longer_held a b c g is are = omega arith

-- what was printed fits
abbrev answered : Bool → ℕ → Result ℕ ShortOutput
answered b m = cond b (Ok m) (Err (record {}))

fit : (b : Bool) (n m : ℕ) → Ok n ≡ answered b m → b ≡ true
fit true n m h = refl
fit false n m h = let z : ◌≡◌ {A = ℕ} 0 1 = cc in absurd (omega arith)

-- memory that is long enough is not refused
pub always_fits : (bs xs : List ℕ) (r : Result ℕ ShortOutput) → length bs ≤ length xs → r ≡ print_answer bs xs → is_ok r ≡ true
always_fits bs xs r le h = ap is_ok (h ∙ ap (λ b. answered b (length bs)) (le-leb (length bs) (length xs) le))

module _ (bs xs ys items : List ℕ) (len n : ℕ) (long : length xs ≡ len) (enough : len ≤ length bs) (answer : Ok n ≡ print_answer bs xs) (kept : ys ≡ print_kept bs xs) where
  into : fits bs xs ≡ true
  into = fit (fits bs xs) n (length bs) answer

  ys_is : ys ≡ bs
  ys_is =
      let le : length bs ≤ length xs = leb-true (length bs) (length xs) into in
      let none : drop (length bs) xs ≡ [] = drop_all (length bs) xs (omega arith) in
      kept ∙ ap (λ b. cond b (bs ++ drop (length bs) xs) xs) into ∙ ap (λ rest. bs ++ rest) none ∙ append-nil bs

  pub shown_whole : take len (ys ++ drop (length ys) items) ≡ bs
  shown_whole =
      let le : length bs ≤ length xs = leb-true (length bs) (length xs) into in
      let same : length bs ≡ len = omega arith in
      let all : take len (bs ++ drop (length ys) items) ≡ take len bs = take-append-le len bs (drop (length ys) items) (omega arith) in
      ap (λ zs. take len (zs ++ drop (length ys) items)) ys_is ∙ all ∙ take_all len bs (omega arith)
