use Rattle.std.proofs.Common.{◌≡◌, ◌↔◌, ℕ, length, map, take}
use Rattle.std.specs.List.{Contains}
use Rattle.search_graph.specs.Digraph.{Leaves}
use Rattle.route_steps.proofs.WayLemmas.{stood_head}
use Rattle.route_steps.proofs.ways.heads_from.Given as goal

-- the row has the arcs that leave d, and what the heads of those so far stand for is listed
abbrev pub invariant-loop-place : goal.invariant-loop-place
invariant-loop-place l =
    ((i : ℕ) → Contains l.row i ↔ Leaves l.graph i l.d)
    × (l.place-end ≡ length l.row)
    × (l.heads.items ≡ map (stood_head l.network) (take l.place l.row))
