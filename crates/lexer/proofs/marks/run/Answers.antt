use Rattle.std.proofs.Common.{◌≡◌, ◌==◌, cond, Some, None, ltb, length, ap, ◌∙◌, arith, rules}
use Rattle.std.specs.Option.{unwrap_or}
use Rattle.std.specs.List.{position_or_len}
use Rattle.std.proofs.lemmas.Iterator.{YieldsList-from_slice}
use Rattle.std.proofs.lemmas.Iterator.Search.{position_from_yields_List}
use Rattle.std.proofs.lemmas.List.Sums.{prefix_len-le-length}
use Rattle.lexer.specs.Bytes.{other_than}
use Rattle.lexer.specs.Marks.{code}
use Rattle.lexer.proofs.marks.run.Goals as goal

pub returns-clause-value : goal.returns-clause-value
returns-clause-value c =
    let bs = c.args.bytes.now in
    let k = position_or_len (λ b. b == code c.args.mark) bs in
    let found = position_from_yields_List (λ b. b == code c.args.mark) _ _ _ c.position-mark_at.ensures.ran (YieldsList-from_slice bs cc) (λ x b q h. search rules) in
    let whole : unwrap_or (cond (ltb k (length bs)) (Some k) None) (length bs) ≡ k = grind (arith, prefix_len-le-length (other_than (code c.args.mark)) bs) in
    c.unwrap_or.ensures ∙ ap (λ o. unwrap_or o (length bs)) found ∙ whole
