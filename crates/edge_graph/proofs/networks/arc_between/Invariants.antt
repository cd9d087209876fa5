use Rattle.std.proofs.Common.{◌≡◌, ℕ, ◌<◌, ◌↔◌, Some, length}
use Rattle.std.specs.List.{Contains, slice_get}
use Rattle.search_graph.specs.Digraph.{IsArc, Leaves}
use Rattle.via_paths.specs.Expansion.{standing}
use Rattle.edge_graph.proofs.networks.arc_between.Given as goal

-- the row has the arcs that leave d, and none of those looked at leads to what stands for e
abbrev pub invariant-loop-place : goal.invariant-loop-place
invariant-loop-place l =
    ((i : ℕ) → Contains l.row i ↔ Leaves l.graph i l.d)
    × (l.place-end ≡ length l.row)
    × ((k i q : ℕ) → k < l.place → slice_get l.row k ≡ Some i → IsArc l.graph i l.d q → ¬ (standing l.ordinary l.stands_for q ≡ l.e))
