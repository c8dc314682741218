-- A plain box and then the line's end is what an item says of a plain box. Assumes nothing.
use Rattle.std.proofs.Common.{◌≡◌, ℕ, Ok, Err, Result, refl, sym, ap, ◌∙◌}
use Rattle.lexer.specs.declared.faults.Fault.{Fault}
use Rattle.lexer.specs.Fields.{next}
use Rattle.lexer.specs.Forms.{after, a_number, reading, finish}
use Rattle.lexer.specs.Lines.{FileLine}
use Rattle.shapes.specs.declared.sides.Side.{Side}
use Rattle.shapes.specs.declared.sides.Clear.{Clear}
use Rattle.lines.specs.declared.items.PlainLine.{PlainLine}
use Rattle.lines.specs.Items.{ItemForm, plain, Boxed, box_from, plain_form, fields_rest, fields_form}
use Rattle.lines.specs.declared.names.ItemWord.TheVariants.{Plain}
use Rattle.lines.specs.Names.{a_side, a_clear, an_item}

abbrev the_box : Side → Clear → ℕ → ℕ → PlainLine
the_box s c w h = record { side = s; clear = c; width = w; height = h }

abbrev the_boxed : PlainLine → ℕ → Result Boxed Fault
the_boxed b u = Ok (record { box = b; place = u })

module _ (l : FileLine) where
  abbrev closed : Boxed → Result ItemForm Fault
  closed b = finish l.ended l.bytes b.place (plain b.box)

  joined : (s : Result Side Fault) (c : Result Clear Fault) (w h : Result ℕ Fault) (u : ℕ) →
      after (after s (λ a. after c (λ b. after w (λ m. after h (λ n. the_boxed (the_box a b m n) u))))) closed
      ≡ after s (λ a. after c (λ b. after w (λ m. after h (λ n. finish l.ended l.bytes u (plain (the_box a b m n))))))
  joined (Ok s) (Ok c) (Ok w) (Ok h) u = refl
  joined (Ok s) (Ok c) (Ok w) (Err e) u = refl
  joined (Ok s) (Ok c) (Err e) h u = refl
  joined (Ok s) (Err e) w h u = refl
  joined (Err e) c w h u = refl

  plain_whole : (p : ℕ) → after (box_from l.bytes p) closed ≡ plain_form l p
  plain_whole p =
      let q = next l.bytes p in
      let r = next l.bytes q in
      let t = next l.bytes r in
      joined (reading a_side l.bytes p) (reading a_clear l.bytes q) (reading a_number l.bytes r) (reading a_number l.bytes t) (next l.bytes t)

  pub plain_read : (n : ℕ) (b : PlainLine) (u : ℕ) → Ok Plain ≡ reading an_item l.bytes 0 → the_boxed b u ≡ box_from l.bytes (next l.bytes 0) → fields_form n l ≡ finish l.ended l.bytes u (plain b)
  plain_read n b u word read =
      ap (λ r. after r (λ w. fields_rest n l w (next l.bytes 0))) (sym word)
      ∙ sym (plain_whole (next l.bytes 0))
      ∙ ap (λ r. after r closed) (sym read)
