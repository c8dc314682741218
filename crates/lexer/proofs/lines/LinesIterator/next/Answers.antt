use Rattle.std.proofs.Common.{◌≡◌, ◌+◌, ltb, length, ◌∷◌, drop, sym, ap, ◌∙◌, arith, rules}
use Rattle.std.proofs.lemmas.List.{take_rest, drop-drop}
use Rattle.std.proofs.lemmas.Grind.{common_steps}
use Rattle.lexer.specs.Lines.{file_line, file_lines}
use Rattle.lexer.proofs.Cuts.{first_line}
use Rattle.lexer.proofs.lines.LinesIterator.next.Goals as goal
use Rattle.lexer.proofs.lines.LinesIterator.next.Goals.{in-empty, in-len1-up}

pub returns-clause-steps : goal.returns-clause-steps
returns-clause-steps c =
    let bs = c.args.self.now.rest.now in
    let n = c.run-length.result in
    let behind : c.if-behind-lt1.self.now ≡ drop (n + 1) bs =
    elim c.if-behind-lt1.branch [ in-empty w ↦ grind (arith, common_steps) | in-len1-up w ↦ ap (λ r. r.now) w.self-is ∙ take_rest c.split_at.result.1.now 1 ∙ ap (drop 1) c.split_at.ensures.back ∙ drop-drop 1 n bs ] in
    let e = first_line bs c.if-behind-lt1.self.now n (grind (arith, common_steps)) c.run-length.ensures.value behind in
    e ∙ ap (λ b. file_line b (ltb n (length bs)) ∷ file_lines c.if-behind-lt1.self.now) (sym c.split_at.ensures.front)

pub returns-clause-goes : goal.returns-clause-goes
returns-clause-goes c = let e = ap length (returns-clause-steps c) in record { on = λ _. (search rules, search rules, omega (arith, e)); keeps = search rules; rests = search rules }
