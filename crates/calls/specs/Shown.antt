-- What is printed, one line each. Assumes nothing.
--     refused_words n    the refusal of number n
--     denied_number d    the number that is printed of d
--     stop_words o       why a flow stopped, behind the words that it set
--     open_words o       the open line, behind an answer
--     reply_words r      the reply r
--     answer_words a     the answer a: a reply, or a refusal
--     row_line r         a line that is printed
use Rattle.std.specs.Prelude.{ℕ, List, [], ◌∷◌, ◌++◌, Some, None, Ok, Err, codes, Option, Result}
use Rattle.lexer.specs.Bytes.{line_end}
use Rattle.rules.specs.Printed.{spaced, box_words, total_words}
use Rattle.rules.specs.declared.boxes.LineBox.{LineBox}
use Rattle.rules.specs.declared.refusals.Refusal.{Refusal}
use Rattle.rules.specs.Refusals.{number_of}
use Rattle.text.specs.Fault.{cause_of}
use Rattle.calls.specs.declared.replies.Denied.{Denied}
use Rattle.calls.specs.declared.replies.Denied.TheVariants as D
use Rattle.calls.specs.declared.replies.Reply.{Reply}
use Rattle.calls.specs.declared.replies.Reply.TheVariants.{Sheet, Metric, Opened, Panel, Flowed, Ended, Totals, Skipped}
use Rattle.calls.specs.declared.replies.Row.{Row}
use Rattle.calls.specs.declared.replies.Row.TheVariants.{Answer, Box, Total}

abbrev pub refused_words : ℕ → List ℕ
refused_words n = codes "refused" ++ spaced (n ∷ [])

abbrev pub denied_number : Denied → ℕ
denied_number (D.Call e) = number_of e
denied_number (D.Text f) = cause_of f

abbrev pub stop_words : Option Refusal → List ℕ
stop_words None = []
stop_words (Some e) = codes " " ++ refused_words (number_of e)

abbrev pub open_words : Option LineBox → List ℕ
open_words None = []
open_words (Some l) = codes " open" ++ spaced (l.x ∷ l.y ∷ l.width ∷ l.words ∷ [])

abbrev pub reply_words : Reply → List ℕ
reply_words Sheet = codes "sheet"
reply_words Metric = codes "metric"
reply_words (Opened n) = codes "opened" ++ spaced (n ∷ [])
reply_words (Panel p) = codes "panel" ++ spaced (p.x ∷ p.y ∷ [])
reply_words (Flowed f) = codes "flowed" ++ (spaced (f.set ∷ []) ++ stop_words f.stopped)
reply_words Ended = codes "ended"
reply_words (Totals t) = codes "totals" ++ spaced (t.panels ∷ t.lines ∷ t.words ∷ [])
reply_words Skipped = codes "skipped"

abbrev pub answer_words : Result Reply Denied → List ℕ
answer_words (Ok r) = reply_words r
answer_words (Err d) = refused_words (denied_number d)

-- a line with just this, and then its end
abbrev pub ended_by : List ℕ
ended_by = line_end ∷ []

abbrev pub row_line : Row → List ℕ
row_line (Answer a o) = answer_words a ++ (open_words o ++ ended_by)
row_line (Box b) = box_words b ++ ended_by
row_line (Total t) = total_words t ++ ended_by
