use Rattle.std.proofs.Common.{◌≡◌, ◌++◌, drop, map, take}
use Rattle.edge_graph.specs.NetworkView.{stands}
use Rattle.road_walks.proofs.cheapest.stand_for.Given as goal

-- so many of the first vertices are those for which the old ones stand, the others are the old ones
abbrev pub invariant-loop-place : goal.invariant-loop-place
invariant-loop-place l = l.walk.items ≡ map (stands l.network) (take l.place l.fn.walk.items) ++ drop l.place l.fn.walk.items
