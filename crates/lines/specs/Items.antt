-- The items of a paragraph, one line each. Assumes nothing.
--     ItemForm               what an item says: the bytes of a text, a plain box, or one of the shapes
--     item_form shapes l     what an item's line says, where there are so many shapes: its first field is its keyword
--     Boxed                  a plain box, and the place behind it
--     box_from line p        `SIDE CLEAR W P` from the place p on, and the place behind it
--     boxed p r              the plain box that the code holds as r, with the place p
--     plain_form l p         `SIDE CLEAR W P` from the place p on, to the line's end
--     shaped_form n l p      `SIDE CLEAR I` from p on, with I below n
--     text_form l p          all bytes from p on, and there may be none; p past the line's end says that the space is missing
--     item_said r            the same of what the code holds as r
--     text_in bs             what stands behind `text `, where the bytes bs begin so
--     fields_form shapes l   item_form of a line that doesn't
use Rattle.std.specs.Prelude.{ℕ, cond, List, length, take as front, drop, Some, None, Ok, Err, codes, Option, Result, nat_le}
use Rattle.std.specs.Str.{bytes_eq}
use Rattle.lexer.specs.declared.faults.Cause.TheVariants.{Field}
use Rattle.lexer.specs.declared.faults.Fault.{Fault}
use Rattle.lexer.specs.Forms.{fault, after, a_number, take, closing, finish}
use Rattle.lexer.specs.Lines.{FileLine}
use Rattle.lines.specs.declared.names.ItemWord.{ItemWord}
use Rattle.lines.specs.declared.names.ItemWord.TheVariants as W
use Rattle.lines.specs.declared.items.PlainLine.{PlainLine}
use Rattle.lines.specs.declared.items.ShapedLine.{ShapedLine}
use Rattle.lines.specs.declared.items.Item.{Item}
use Rattle.lines.specs.declared.items.Item.TheVariants as I
use Rattle.lines.specs.Bounds.{number_below}
use Rattle.lines.specs.Names.{a_side, a_clear, an_item}

pub data ItemForm : Type 0 where
  text : List ℕ → ItemForm
  plain : PlainLine → ItemForm
  shaped : ShapedLine → ItemForm

-- the line's end is judged last, at the line's length
abbrev pub text_form : FileLine → ℕ → Result ItemForm Fault
text_form l p =
    cond (nat_le p (length l.bytes))
    (after (closing l.ended l.bytes) (λ _. Ok (text (drop p l.bytes))))
    (Err (fault Field p))

-- a plain box, and the place behind it
pub record Boxed : Type 0 where
  pub box : PlainLine
  pub place : ℕ

abbrev pub box_from : List ℕ → ℕ → Result Boxed Fault
box_from line p =
    take a_side line p
    (λ s q. take a_clear line q
    (λ c r. take a_number line r
    (λ w t. take a_number line t
    (λ h u. Ok (record { box = record { side = s; clear = c; width = w; height = h }; place = u })))))

abbrev pub boxed : ℕ → Result PlainLine Fault → Result Boxed Fault
boxed p (Ok b) = Ok (record { box = b; place = p })
boxed p (Err e) = Err e

abbrev pub plain_form : FileLine → ℕ → Result ItemForm Fault
plain_form l p =
    take a_side l.bytes p
    (λ s q. take a_clear l.bytes q
    (λ c r. take a_number l.bytes r
    (λ w t. take a_number l.bytes t
    (λ h u. finish l.ended l.bytes u (plain (record { side = s; clear = c; width = w; height = h }))))))

abbrev pub shaped_form : ℕ → FileLine → ℕ → Result ItemForm Fault
shaped_form n l p =
    take a_side l.bytes p
    (λ s q. take a_clear l.bytes q
    (λ c r. take (number_below n) l.bytes r
    (λ i t. finish l.ended l.bytes t (shaped (record { side = s; clear = c; index = i })))))

-- behind the keyword
abbrev pub item_rest : ℕ → FileLine → ItemWord → ℕ → Result ItemForm Fault
item_rest n l W.Text p = text_form l p
item_rest n l W.Plain p = plain_form l p
item_rest n l W.Shaped p = shaped_form n l p

abbrev pub item_form : ℕ → FileLine → Result ItemForm Fault
item_form n l = take an_item l.bytes 0 (item_rest n l)

abbrev pub item_of : Item → ItemForm
item_of (I.Text bytes) = text bytes.now
item_of (I.Plain p) = plain p
item_of (I.Shaped s) = shaped s

abbrev pub item_said : Result Item Fault → Result ItemForm Fault
item_said (Ok i) = Ok (item_of i)
item_said (Err e) = Err e

abbrev pub text_in : List ℕ → Option (List ℕ)
text_in bs = cond (bytes_eq (front 5 bs) (codes "text ")) (Some (drop 5 bs)) None

-- behind the keyword, where no text follows `text`
abbrev pub fields_rest : ℕ → FileLine → ItemWord → ℕ → Result ItemForm Fault
fields_rest n l W.Text p = Err (fault Field p)
fields_rest n l W.Plain p = plain_form l p
fields_rest n l W.Shaped p = shaped_form n l p

abbrev pub fields_form : ℕ → FileLine → Result ItemForm Fault
fields_form n l = take an_item l.bytes 0 (fields_rest n l)
