-- Cells that are all empty stand for empty elements, and those past them are as they were.
use Rattle.std.proofs.Common.{◌≡◌, ◌*◌, ◌++◌, ◌≤◌, length, drop, replicate, ap, ◌∙◌, arith, rules, length-append}
use Rattle.std.proofs.lemmas.List.{get_or_append_left}
use Rattle.std.proofs.lemmas.Slice.{drop-append-drop}
use Rattle.segment_tree.specs.LeafCount.{leaf_count}
use Rattle.segment_tree.proofs.LeafLists.{leaves_none}
use Rattle.segment_tree.proofs.segment.Tree.new.Goals as goal

pub returns : goal.returns
returns g c =
    let none = g.E.Element.none in
    let l = c.in_ok-cells.field-0 in
    let q = l.size in
    let lent = c.in_ok-cells.ensures in
    let empty = c.clear.new.cells in
    let rest = drop (2 * q) l.cells.now in
    let all : length empty ≡ 2 * q = search rules in
    let sum = length-append empty rest in
    let long : 2 * q ≤ length (empty ++ rest) = omega arith in
    record {
      room = lent.room;
      count = lent.count;
      size = lent.size;
      empty =
          leaves_none none q l.count (empty ++ rest) long l.few (λ k h. get_or_append_left empty rest none k (omega arith) ∙ c.clear.ensures k (search rules))
          ∙ ap (λ n. replicate n none) lent.count;
      rest =
          ap (λ n. drop (2 * leaf_count c.args.count) (empty ++ drop (2 * n) l.cells.now)) lent.size
          ∙ drop-append-drop (2 * leaf_count c.args.count) l.cells.now empty (2 * leaf_count c.args.count) (omega arith) (all ∙ ap (λ n. 2 * n) lent.size)
          ∙ ap (drop (2 * leaf_count c.args.count)) lent.same;
    }
