-- A line begins with `text ` exactly where its first field is `text` and a space follows. Assumes nothing.
use Rattle.std.proofs.Common.{◌≡◌, ℕ, ◌+◌, ◌<◌, Bool, true, false, cond, eqb, ◌⊎◌, List, [], ◌∷◌, ◌++◌, length, get_or, take as front, drop, Some, None, Ok, Err, codes, Option, Result, sym, refl, ap, ◌∙◌, inl, inr, ⊎_elim, arith}
use Rattle.std.specs.Str.{bytes_eq}
use Rattle.std.proofs.lemmas.Slice.Eq.{bytes_eq-Decides}
use Rattle.std.proofs.lemmas.List.{take-append-drop, take_more, length-take-le}
use Rattle.std.proofs.lemmas.List.Sums.{prefix_len-le-length, prefix_len_stops}
use Rattle.std.proofs.lemmas.Bool.{cond-true, cond-false, cases_lt, cases_Bool, eqb-true, eq-eqb, ne_eqb, not-false, le-leb, lt-leb}
use Rattle.lexer.specs.declared.faults.Cause.TheVariants.{Field}
use Rattle.lexer.specs.declared.faults.Fault.{Fault}
use Rattle.lexer.specs.Bytes.{space, other_than}
use Rattle.lexer.specs.Fields.{width, field, next}
use Rattle.lexer.specs.Forms.{fault, after, some, reading, closing}
use Rattle.lexer.specs.Lines.{FileLine, file_line}
use Rattle.lines.specs.declared.names.ItemWord.{ItemWord}
use Rattle.lines.specs.declared.names.ItemWord.TheVariants.{Text, Plain, Shaped}
use Rattle.lines.specs.Items.{text, item_rest, item_form, fields_rest, fields_form, text_in}
use Rattle.lines.specs.Names.{an_item}

-- the first field fills the line, or a space follows it
pub record Followed (line w : List ℕ) : Type 0 where
  pub next_place : next line 0 ≡ length w + 1
  pub follows : (length line ≡ length w) ⊎ (front (length w + 1) line ≡ w ++ (space ∷ []))

module _ (line w : List ℕ) (e : field line 0 ≡ Some w) where
  field_nonempty : width line 0 ≡ 0 → ⊥
  unfolding field
  field_nonempty z = let b : ◌≡◌ {A = ℕ} 0 1 = cc (e, cond-true (eqb (width line 0) 0) None (Some (front (width line 0) line)) (eq-eqb _ _ z)) in omega arith

  field_is : front (width line 0) line ≡ w
  unfolding field
  field_is = cc (e, cond-false (eqb (width line 0) 0) None (Some (front (width line 0) line)) (ne_eqb _ _ field_nonempty))

  next_is : next line 0 ≡ width line 0 + 1
  unfolding next
  next_is = cond-false (eqb (width line 0) 0) 0 (0 + width line 0 + 1) (ne_eqb _ _ field_nonempty) ∙ (let z : 0 + width line 0 + 1 ≡ width line 0 + 1 = omega arith in z)

  width_is : width line 0 ≡ length w
  width_is = sym (length-take-le (width line 0) line (prefix_len-le-length (other_than space) line)) ∙ ap length field_is

  space_follows : width line 0 < length line → front (length w + 1) line ≡ w ++ (space ∷ [])
  space_follows lt =
      let byte : get_or line (width line 0) 0 ≡ space = eqb-true _ _ (not-false _ (prefix_len_stops (other_than space) line 0 lt)) in
      ap (λ n. front (n + 1) line) (sym width_is)
      ∙ take_more line (width line 0) 0 lt
      ∙ (λ i. field_is i ++ (byte i ∷ []))

  pub field_followed : Followed line w
  field_followed = record {
    next_place = next_is ∙ ap (λ n. n + 1) width_is;
    follows = ⊎_elim (λ lt. inr (space_follows lt)) (λ ge. inl (omega (arith, width_is, prefix_len-le-length (other_than space) line))) (cases_lt (width line 0) (length line));
  }

-- where a line begins with `text `, it is a text
item_text : (n : ℕ) (rest : List ℕ) (e : Bool) → item_form n (file_line (codes "text " ++ rest) e) ≡ after (closing e (codes "text " ++ rest)) (λ _. Ok (text rest))
unfolding field next
item_text n rest e = cond-true _ _ _ (le-leb 5 (length (codes "text " ++ rest)) (omega arith))

module _ (n : ℕ) (l : FileLine) where
  begins : (t : List ℕ) → Some t ≡ text_in l.bytes → l.bytes ≡ codes "text " ++ t
  begins t e = ⊎_elim
      (λ t5. let same : t ≡ drop 5 l.bytes = cc (e, cond-true (bytes_eq (front 5 l.bytes) (codes "text ")) (Some (drop 5 l.bytes)) None t5) in
      sym (take-append-drop 5 l.bytes) ∙ (λ i. (bytes_eq-Decides (front 5 l.bytes) (codes "text ")).0 t5 i ++ sym same i))
      (λ f5. absurd (let z : ◌≡◌ {A = ℕ} 0 1 = cc (e, cond-false (bytes_eq (front 5 l.bytes) (codes "text ")) (Some (drop 5 l.bytes)) None f5) in omega arith))
      (cases_Bool (bytes_eq (front 5 l.bytes) (codes "text ")))

  pub text_there : (t : List ℕ) → Some t ≡ text_in l.bytes → item_form n l ≡ after (closing l.ended l.bytes) (λ _. Ok (text t))
  text_there t e =
      let whole = begins t e in
      ap (λ bs. item_form n (file_line bs l.ended)) whole
      ∙ item_text n t l.ended
      ∙ ap (λ bs. after (closing l.ended bs) (λ _. Ok (text t))) (sym whole)

word_picked : (a b c : Bool) (e : Fault) → some (cond a (Some Text) (cond b (Some Plain) (cond c (Some Shaped) None))) e ≡ Ok Text → a ≡ true
word_picked true b c e h = refl
word_picked false true c e h = absurd (let z : ◌≡◌ {A = ℕ} 0 1 = cc in omega arith)
word_picked false false true e h = absurd (let z : ◌≡◌ {A = ℕ} 0 1 = cc in omega arith)
word_picked false false false e h = absurd (let z : ◌≡◌ {A = ℕ} 0 1 = cc in omega arith)

text_picked : (o : Option (List ℕ)) → after (some o (fault Field 0)) (λ bs. some (an_item.worth bs) (fault an_item.fails 0)) ≡ Ok Text → o ≡ Some (codes "text")
text_picked None h = absurd (let z : ◌≡◌ {A = ℕ} 0 1 = cc in omega arith)
text_picked (Some bs) h = ap Some ((bytes_eq-Decides bs (codes "text")).0 (word_picked _ (bytes_eq bs (codes "box")) (bytes_eq bs (codes "shape")) (fault an_item.fails 0) h))

-- where the first field is `text` and the line doesn't begin with `text `, the line is over
text_alone : (line : List ℕ) → None ≡ text_in line → reading an_item line 0 ≡ Ok Text → length line < next line 0
text_alone line e h =
    let f = field_followed line (codes "text") (text_picked (field line 0) h) in
    ⊎_elim (λ same. omega arith)
    (λ more. absurd (let z : ◌≡◌ {A = ℕ} 0 1 = cc (e, cond-true (bytes_eq (front 5 line) (codes "text ")) (Some (drop 5 line)) None ((bytes_eq-Decides (front 5 line) (codes "text ")).1 more)) in omega arith))
    f.follows

by_word : (n : ℕ) (l : FileLine) (r : Result ItemWord Fault) (p : ℕ) → (r ≡ Ok Text → length l.bytes < p) → after r (λ w. item_rest n l w p) ≡ after r (λ w. fields_rest n l w p)
by_word n l (Ok Text) p h = cond-false _ _ _ (lt-leb _ _ (h refl))
by_word n l (Ok Plain) p h = refl
by_word n l (Ok Shaped) p h = refl
by_word n l (Err e) p h = refl

pub text_missing : (n : ℕ) (l : FileLine) → None ≡ text_in l.bytes → item_form n l ≡ fields_form n l
text_missing n l e = by_word n l (reading an_item l.bytes 0) (next l.bytes 0) (text_alone l.bytes e)
