-- Lists and trees written from the first place on. Assumes nothing.
use Rattle.std.proofs.Common.{◌≡◌, ℕ, ◌≤◌, List, [], ◌++◌, map, length, drop, sym, ap, ◌∙◌, zero-add, arith}
use Rattle.std.specs.List.{AllByRecursion}
use Rattle.std.proofs.ByRecursion.{All-weaker}
use Rattle.words.specs.Law.{Word}
use Rattle.words.specs.Words.{end, words_of}
use Rattle.words.proofs.Walks.{words_are_runs}
use Rattle.std.proofs.lemmas.List.Edits.{sets, sets-eq}
use Rattle.std.proofs.lemmas.List.{length-map}
use Rattle.text.specs.Measure.{laid}

sets_laid : {X : Type 0} (new old : List X) → length new ≤ length old → sets old 0 new ≡ laid new old
sets_laid new old room = sets-eq new old 0 (omega arith) ∙ ap (λ n. new ++ drop n old) (zero-add (length new))

-- written one by one until none is left, they are laid
pub laid_all : {X Y : Type 0} (f : X → Y) (xs left : List X) (old ys : List Y) (i : ℕ)
    → left ≡ [] → sets ys i (map f left) ≡ sets old 0 (map f xs) → length xs ≤ length old → ys ≡ laid (map f xs) old
laid_all f xs left old ys i none sofar room =
    let long = length-map xs f in
    ap (λ zs. sets ys i (map f zs)) (sym none) ∙ sofar ∙ sets_laid (map f xs) old (omega arith)

-- a word lies within its text
pub words_within : (text : List ℕ) → AllByRecursion (λ w. end w ≤ length text) (words_of text)
words_within text = All-weaker (Word text) (λ w. end w ≤ length text) (λ w is. is.within) (words_of text) (words_are_runs text).runs
