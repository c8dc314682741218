-- The refusals of the calls on a sheet. Assumes nothing.
--     number_of e   the number that reports show for e
--     first ts      the first refusal of ts whose test is true: they are looked for in that order
use Rattle.std.specs.Prelude.{ℕ, Bool, cond, List, [], ◌∷◌, Some, None, Option}
use Rattle.rules.specs.declared.refusals.Refusal.{Refusal}
use Rattle.rules.specs.declared.refusals.Refusal.TheVariants.{BadSize, FewCells, NoShape, NoParagraph, AlreadyOpen, WrongSlip, BadMargins, WidePanel, WideWord, ListFull, NoPlace, ManyParagraphs}

abbrev pub number_of : Refusal → ℕ
number_of BadSize = 1
number_of FewCells = 2
number_of NoShape = 3
number_of NoParagraph = 20
number_of AlreadyOpen = 21
number_of WrongSlip = 22
number_of BadMargins = 23
number_of WidePanel = 24
number_of WideWord = 25
number_of ListFull = 26
number_of NoPlace = 27
number_of ManyParagraphs = 28

abbrev pub first : List (Bool × Refusal) → Option Refusal
first [] = None
first (t ∷ ts) = cond t.0 (Some t.1) (first ts)
