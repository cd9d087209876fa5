-- When a network is refused.
use Rattle.std.specs.Prelude.{ℕ, ◌<◌, ◌≤◌, length}
use Rattle.edge_graph.specs.Limits.{most_copies}
use Rattle.road_turns.specs.Limits.{most_turns}
use Rattle.road_segments.specs.Limits.{most_segments}
use Rattle.edge_graph.specs.NetworkView.{NetworkView, copies_in, graph_of}
use Rattle.edge_graph.specs.declared.build_faults.BuildFault.{BuildFault}
use Rattle.edge_graph.specs.declared.build_faults.BuildFault.TheVariants.{TooManySegments, TooManyVias, TooManyTurns, Memory}

-- the network has at most so many segments, and the graph that is searched so many copies of vertices and so many arcs
pub record IsWithinLimits (network : NetworkView) : Type 0 where
  pub segments : length network.segments ≤ most_segments
  pub copies : length (copies_in network) ≤ most_copies
  pub turns : length (graph_of network).arcs ≤ most_turns

-- the fault's cause; want of memory has none
abbrev pub IsBuildFault : NetworkView → BuildFault → Type 0
IsBuildFault network TooManySegments = most_segments < length network.segments
IsBuildFault network TooManyVias = (length network.segments ≤ most_segments) × (most_copies < length (copies_in network))
IsBuildFault network TooManyTurns =
    (length network.segments ≤ most_segments) × (length (copies_in network) ≤ most_copies) × (most_turns < length (graph_of network).arcs)
IsBuildFault network Memory = Unit {0}

-- why so many turns, or arcs, are refused
abbrev pub IsTurnsFault : ℕ → BuildFault → Type 0
IsTurnsFault count TooManySegments = ⊥
IsTurnsFault count TooManyVias = ⊥
IsTurnsFault count TooManyTurns = most_turns < count
IsTurnsFault count Memory = Unit {0}

-- why so many copies are
abbrev pub IsViasFault : ℕ → BuildFault → Type 0
IsViasFault count TooManySegments = ⊥
IsViasFault count TooManyVias = most_copies < count
IsViasFault count TooManyTurns = ⊥
IsViasFault count Memory = Unit {0}

-- why a graph of so many copies and arcs is
abbrev pub IsSearchedFault : ℕ → ℕ → BuildFault → Type 0
IsSearchedFault copies arcs TooManySegments = ⊥
IsSearchedFault copies arcs TooManyVias = most_copies < copies
IsSearchedFault copies arcs TooManyTurns = (copies ≤ most_copies) × (most_turns < arcs)
IsSearchedFault copies arcs Memory = Unit {0}
