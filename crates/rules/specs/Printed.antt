-- What is printed of boxes, each on one line; the line end stands behind it. Assumes nothing.
--     spaced ns       the numbers ns, each behind a space
--     box_words b     a box: a panel with its side, place and size, or a line with its place, width and words
--     total_words t   the totals: panels, lines and words
use Rattle.std.specs.Prelude.{ℕ, List, [], ◌∷◌, ◌++◌, codes, decimal}
use Rattle.std.specs.List.{flat_map}
use Rattle.shapes.specs.Sides.{side_word}
use Rattle.rules.specs.declared.boxes.BoxRecord.{BoxRecord}
use Rattle.rules.specs.declared.boxes.BoxRecord.TheVariants as B
use Rattle.rules.specs.declared.boxes.Totals.{Totals}

abbrev pub spaced : List ℕ → List ℕ
spaced ns = flat_map (λ n. codes " " ++ decimal n) ns

abbrev pub box_words : BoxRecord → List ℕ
box_words (B.Panel p) = codes "panel " ++ (side_word p.side ++ spaced (p.x ∷ p.y ∷ p.width ∷ p.height ∷ []))
box_words (B.Line l) = codes "line" ++ spaced (l.x ∷ l.y ∷ l.width ∷ l.words ∷ [])

abbrev pub total_words : Totals → List ℕ
total_words t = codes "total" ++ spaced (t.panels ∷ t.lines ∷ t.words ∷ [])
