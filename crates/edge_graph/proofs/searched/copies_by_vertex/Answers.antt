use Rattle.std.proofs.Common.{◌≡◌, ℕ, ◌<◌, List, Some, get_or, length, arith, refl}
use Rattle.std.specs.List.{slice_get}
use Rattle.std.proofs.lemmas.Option.{slice_get-get_or}
use Rattle.edge_graph.proofs.CopyLemmas.{copies-added}
use Rattle.edge_graph.proofs.searched.copies_by_vertex.Goals as goal

pub loop-k-preserved : goal.loop-k-preserved
loop-k-preserved c =
    let all : List ℕ = c.args.stands_for.now in
    let k : ℕ = c.loop-k.k in
    let lt : k < length all = omega arith in
    let at : slice_get all k ≡ Some (get_or all k 0) = slice_get-get_or all k 0 lt in
    (copies-added c.args.first all c.loop-k.copies c.add_copy.new.copies k (get_or all k 0) at c.in_ok-add_copy.ensures c.loop-k.invariant.0, refl)
