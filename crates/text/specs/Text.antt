-- A measured text, and what measuring makes of a text. Assumes nothing.
--     words_in t                        the records of its words, in their order
--     runs_in t                         each of its words as a run
--     accepted adv text words cells     the words that measuring into so many records and cells gives: of a fault, none
--     cells_used text words cells       how many cells it writes
--     Measures adv text words cells t   measuring the text into these records and cells gives t
--     Makes adv text words cells r      r is the text that is measured into them, or hands them back
--     HandedBack fault words cells u    u tells this fault and holds these records and cells, as they were
use Rattle.std.specs.Prelude.{◌≡◌, ℕ, ◌*◌, List, [], map, length, take, drop, Some, None, Option, Ok, Err, Result}
use Rattle.segment_tree.specs.LeafCount.{leaf_count}
use Rattle.segment_tree.specs.Trees.{elements}
use Rattle.words.specs.Words.{words_of}
use Rattle.text.specs.Fault.{text_fault}
use Rattle.text.specs.Measure.{run_of, measured, space_byte, laid}
use Rattle.text.specs.declared.faults.TextFault.{TextFault}
use Rattle.text.specs.declared.faults.Unmeasured.{Unmeasured}
use Rattle.text.specs.declared.records.Word.{Word}
use Rattle.text.specs.declared.runs.Run.{Run}
use Rattle.text.specs.declared.texts.Text.{Text}

abbrev pub words_in : Text → List Word
words_in t = take t.runs.count t.words.now

abbrev pub runs_in : Text → List Run
runs_in t = map run_of (words_in t)

-- what there is where there is no fault, and otherwise another
abbrev pub unless : {X : Type 0} → Option TextFault → X → X → X
unless (Some f) other x = other
unless None other x = x

abbrev pub accepted : (ℕ → ℕ) → List ℕ → ℕ → ℕ → List Word
accepted adv text words cells = unless (text_fault text words cells) [] (measured adv text)

abbrev pub cells_used : List ℕ → ℕ → ℕ → ℕ
cells_used text words cells = unless (text_fault text words cells) 0 (2 * leaf_count (length (words_of text)))

pub record Measures (adv : ℕ → ℕ) (text : List ℕ) (words : List Word) (cells : List Run) (t : Text) : Type 0 where
  pub which : words_in t ≡ accepted adv text (length words) (length cells)
  pub runs : elements t.runs ≡ runs_in t
  pub space : t.space ≡ adv space_byte
  -- the records and the cells that are not used are as they were
  pub list : t.words.now ≡ laid (accepted adv text (length words) (length cells)) words
  pub rest : drop (cells_used text (length words) (length cells)) t.runs.cells.now ≡ drop (cells_used text (length words) (length cells)) cells

pub record HandedBack (fault : Option TextFault) (words : List Word) (cells : List Run) (u : Unmeasured) : Type 0 where
  pub why : fault ≡ Some u.fault
  pub list : u.words.now ≡ words
  pub tree : u.cells.now ≡ cells

abbrev pub Makes : (ℕ → ℕ) → List ℕ → List Word → List Run → Result Text Unmeasured → Type 0
Makes adv text words cells (Ok t) = (text_fault text (length words) (length cells) ≡ None) × Measures adv text words cells t
Makes adv text words cells (Err u) = HandedBack (text_fault text (length words) (length cells)) words cells u
