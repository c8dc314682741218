-- The account worked out call by call, by trying rows one by one: plain enough to be computed for examples. Assumes nothing.
--     reply_to z A c   the answer to the call c on the account A, and the account after it
--     replies z A cs   the answers to the calls cs, the oldest first, and the account after them
use Rattle.std.specs.Prelude.{ℕ, suc, ◌+◌, cond, List, [], ◌∷◌, drop, Some, None, Option, nat_le, nat_lt}
use Rattle.places.specs.declared.parts.Line.{Line}
use Rattle.places.specs.declared.parts.Place.{Place}
use Rattle.places.specs.Bands.{room, band}
use Rattle.places.specs.Permitted.{Wanted}
use Rattle.places.specs.Tried.{best_place, least_row}
use Rattle.rules.specs.declared.refusals.Refusal.{Refusal}
use Rattle.rules.specs.declared.refusals.Refusal.TheVariants.{NoParagraph, WideWord, ListFull, NoPlace}
use Rattle.rules.specs.declared.paragraphs.Paragraph.{Paragraph}
use Rattle.rules.specs.Account.{Size, rows_of, Account, scene, full, start_row, early_open, early_panel, early_end, with_open, with_panel, with_end}
use Rattle.rules.specs.Words.{longer, with_word, with_line}
use Rattle.rules.specs.Runs.{Call, Answer, opens, flows, panels, ends, opened, flowed, stands, ended, refused}

pub record Reply : Type 0 where
  pub answer : Answer
  pub after : Account

abbrev pub reply : Answer → Account → Reply
reply a A = record { answer = a; after = A }

-- the early refusal, or else what the call comes to
abbrev pub unless : Option Refusal → Account → Reply → Reply
unless (Some e) A r = reply (refused e) A
unless None A r = r

-- Panels

abbrev pub place_reply : Account → Wanted → Option Place → Reply
place_reply A o None = reply (refused NoPlace) A
place_reply A o (Some q) = reply (stands q.x q.y) (with_panel A o q.x q.y)

abbrev pub panel_reply : Size → Account → Wanted → Option Paragraph → Reply
panel_reply z A o None = reply (refused NoParagraph) A
panel_reply z A o (Some p) = place_reply A o (best_place (rows_of z) (scene A p) o)

-- Words

pub data Outcome : Type 0 where
  set : Account → Outcome
  stops : Refusal → Outcome

abbrev pub line_at : Size → Paragraph → Account → ℕ → Option ℕ → Outcome
line_at z p A a None = stops NoPlace
line_at z p A a (Some t) = set (with_line z p A a t)

abbrev pub new_line : Size → Paragraph → Account → ℕ → Outcome
new_line z p A a = cond (full z A) (stops ListFull) (line_at z p A a (least_row (rows_of z) (scene A p) (start_row z A) a))

abbrev pub on_line : Size → Paragraph → ℕ → Account → ℕ → Option Line → Outcome
on_line z p sp A a None = new_line z p A a
on_line z p sp A a (Some l) = cond (nat_le (l.used + sp + a) (room (band p.margins A.placed l.top z.line))) (set (with_word A (longer sp a l))) (new_line z p A a)

abbrev pub word_outcome : Size → Paragraph → ℕ → Account → ℕ → Outcome
word_outcome z p sp A a = cond (nat_lt (room p.margins) a) (stops WideWord) (on_line z p sp A a A.current)

pub record Flow : Type 0 where
  pub count : ℕ
  pub stop : Option Refusal
  pub after : Account

abbrev pub one_more : Flow → Flow
one_more f = record { count = suc f.count; stop = f.stop; after = f.after }

-- a word that stops the flow, or the flow from the account after it
abbrev pub continued : Outcome → Account → (Account → Flow) → Flow
continued (stops e) A rest = record { count = 0; stop = Some e; after = A }
continued (set B) A rest = one_more (rest B)

abbrev pub flow_words : Size → Paragraph → ℕ → List ℕ → Account → Flow
flow_words z p sp [] A = record { count = 0; stop = None; after = A }
flow_words z p sp (a ∷ ws) A = continued (word_outcome z p sp A a) A (λ B. flow_words z p sp ws B)

abbrev pub flow_reply : Size → Account → List ℕ → ℕ → Option Paragraph → Reply
flow_reply z A ws sp None = reply (flowed 0 (Some NoParagraph)) A
flow_reply z A ws sp (Some p) = reply (flowed (flow_words z p sp ws A).count (flow_words z p sp ws A).stop) (flow_words z p sp ws A).after

abbrev pub end_reply : Size → Account → Option Paragraph → Reply
end_reply z A None = reply (refused NoParagraph) A
end_reply z A (Some p) = reply ended (with_end z A p)

abbrev pub reply_to : Size → Account → Call → Reply
reply_to z A (opens m c) = unless (early_open z A m) A (reply (opened (A.count + 1)) (with_open A m c))
reply_to z A (panels o) = unless (early_panel z A o) A (panel_reply z A o A.para)
reply_to z A (flows ws sp from) = flow_reply z A (drop from ws) sp A.para
reply_to z A (ends n) = unless (early_end A n) A (end_reply z A A.para)

pub record Replies : Type 0 where
  pub answers : List Answer
  pub account : Account

-- one call, and then the others
abbrev pub and_then : Reply → (Account → Replies) → Replies
and_then r rest = record { answers = r.answer ∷ (rest r.after).answers; account = (rest r.after).account }

abbrev pub replies : Size → List Call → Account → Replies
replies z [] A = record { answers = []; account = A }
replies z (c ∷ cs) A = and_then (reply_to z A c) (λ B. replies z cs B)
