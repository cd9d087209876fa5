use Rattle.std.proofs.Common.{◌≡◌, length}
use Rattle.edge_graph.proofs.CopyLemmas.{AreCopiesUpTo}
use Rattle.edge_graph.proofs.searched.copies_by_vertex.Given as goal

-- those of the first k are in the map
abbrev pub invariant-loop-k : goal.invariant-loop-k
invariant-loop-k l = AreCopiesUpTo l.first l.stands_for l.copies l.k × (l.k-end ≡ length l.stands_for)
