-- How a sheet's fields are read, and what its calls answer, in the words of the account. Assumes nothing.
--     view s            the fields of s
--     Keeps s t         the list of t is that of s, and the records past those in use are what they were
--     Sets s t          beside that, the rows and the open paragraph are what they were
--     .._answer r       the answer r of a call
--     advances_in t     the advances of a text's words
use Rattle.std.specs.Prelude.{◌≡◌, ℕ, List, map, Ok, Err, Result}
use Rattle.places.specs.declared.parts.Place.{Place}
use Rattle.rules.specs.declared.refusals.Refusal.{Refusal}
use Rattle.rules.specs.Runs.{Answer, opened, flowed, stands, ended, refused}
use Rattle.text.specs.declared.texts.Text.{Text}
use Rattle.text.specs.Text.{words_in}
use Rattle.sheet.specs.declared.answers.Flowed.{Flowed}
use Rattle.sheet.specs.declared.slips.Slip.{Slip}
use Rattle.sheet.specs.declared.store.Store.{Store}
use Rattle.sheet.specs.View.{View, Rest}

abbrev pub view : Store → View
view s = record {
  rows = s.rows;
  recs = s.list.now;
  line = s.line;
  used = s.used;
  top = s.top;
  bottoms = s.bottoms;
  cursor = s.cursor;
  count = s.count;
  para = s.para;
  current = s.current;
}

pub record Keeps (s t : Store) : Type 0 where
  pub named : t.list.ghost_name ≡ s.list.ghost_name
  pub rest : Rest (view s) (view t)

pub record Sets (s t : Store) : Type 0 where
  pub keeps : Keeps s t
  pub rows : t.rows ≡ s.rows
  pub para : t.para ≡ s.para

abbrev pub open_answer : Result Slip Refusal → Answer
open_answer (Ok s) = opened s.number
open_answer (Err e) = refused e

abbrev pub panel_answer : Result Place Refusal → Answer
panel_answer (Ok p) = stands p.x p.y
panel_answer (Err e) = refused e

abbrev pub flow_answer : Flowed → Answer
flow_answer f = flowed f.set f.stopped

abbrev pub end_answer : Result Unit (Refusal × Slip) → Answer
end_answer (Ok u) = ended
end_answer (Err b) = refused b.0

abbrev pub advances_in : Text → List ℕ
advances_in t = map (λ w. w.advance) (words_in t)
