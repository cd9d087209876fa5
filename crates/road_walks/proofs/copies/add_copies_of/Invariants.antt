use Rattle.std.proofs.Common.{◌≡◌, ◌++◌, map, take}
use Rattle.road_walks.proofs.CopyLemmas.{at_vertex}
use Rattle.road_walks.proofs.copies.add_copies_of.Given as goal

-- each of the copies so far has its target
abbrev pub invariant-loop-vertex : goal.invariant-loop-vertex
invariant-loop-vertex l = l.targets.items ≡ l.fn.targets.items ++ map (at_vertex l.target.cost) (take l.vertex-index l.copies)
