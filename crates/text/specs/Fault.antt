-- Why a text is not measured. Assumes nothing.
--     longest_text                     how many bytes a text may have
--     cause_of f                       the number by which the fault f is known outside
--     place_of f                       the offset in the text that f is about, or 0
--     long_fault text                  6, where the text has too many bytes
--     byte_fault text                  5, where a byte may not stand in a text, at the first such byte
--     memory_fault text words cells    7, where its words need more than so many records, or than so many cells
--     text_fault text words cells      the first of these, in this order
use Rattle.std.specs.Prelude.{ℕ, ◌*◌, cond, ◌&&◌, List, length, Some, None, Option, nat_le}
use Rattle.metrics.specs.Refusal.{unfit}
use Rattle.segment_tree.specs.LeafCount.{leaf_count}
use Rattle.words.specs.Alphabet.{first_bad}
use Rattle.words.specs.Words.{words_of}
use Rattle.text.specs.declared.faults.TextFault.{TextFault}
use Rattle.text.specs.declared.faults.TextFault.TheVariants.{Metrics, Byte, Long, Memory}

abbrev pub longest_text : ℕ
longest_text = 8192

abbrev pub cause_of : TextFault → ℕ
cause_of Metrics = unfit
cause_of (Byte p) = 5
cause_of Long = 6
cause_of Memory = 7

abbrev pub place_of : TextFault → ℕ
place_of Metrics = 0
place_of (Byte p) = p
place_of Long = 0
place_of Memory = 0

abbrev pub long_fault : List ℕ → Option TextFault
long_fault text = cond (nat_le (length text) longest_text) None (Some Long)

abbrev pub at_byte : Option ℕ → Option TextFault
at_byte None = None
at_byte (Some p) = Some (Byte p)

abbrev pub byte_fault : List ℕ → Option TextFault
byte_fault text = at_byte (first_bad text)

-- a tree has two cells for each of its leaves, and at least one leaf
abbrev pub memory_fault : List ℕ → ℕ → ℕ → Option TextFault
memory_fault text words cells =
    cond (nat_le (length (words_of text)) words && nat_le (2 * leaf_count (length (words_of text))) cells) None (Some Memory)

abbrev pub or_else : Option TextFault → Option TextFault → Option TextFault
or_else (Some f) later = Some f
or_else None later = later

abbrev pub text_fault : List ℕ → ℕ → ℕ → Option TextFault
text_fault text words cells = or_else (long_fault text) (or_else (byte_fault text) (memory_fault text words cells))
