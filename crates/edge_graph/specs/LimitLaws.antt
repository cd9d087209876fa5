-- Bounds of the limits, for sums and types: whoever asks for no more stands as it is where a limit is raised up to it.
use Rattle.std.proofs.Common.{◌≡◌, ◌<◌, ◌≤◌, ◌^◌, ◌*◌, ◌+◌, ◌-◌, length, arith}
use Rattle.edge_graph.specs.BuildCause.{IsWithinLimits}
use Rattle.edge_graph.specs.GraphLaws.{graph-vertices}
use Rattle.edge_graph.specs.Limits.{most_copies}
use Rattle.road_turns.specs.Limits.{most_turns}
use Rattle.edge_graph.specs.NetworkView.{NetworkView, copies_in, graph_of}
use Rattle.road_segments.specs.Limits.{most_segments}

pub few_turns : most_turns < 2 ^ 32
unfolding most_turns
few_turns = omega arith

-- a walk on which no vertex stands twice is within two units for each vertex, less one (`simple_walks_are_within_bounds` of
-- search_graph): in the searched graph of a network these are no more than 2^27
pub few_units : (network : NetworkView) → IsWithinLimits network → 2 * (graph_of network).vertices - 1 ≤ 2 ^ 27
unfolding most_copies most_segments
few_units network limits =
    let few = limits.segments in
    let copies = limits.copies in
    let all : (graph_of network).vertices ≡ 2 * length network.segments + length (copies_in network) = graph-vertices network in
    omega (arith, few, copies, all)
