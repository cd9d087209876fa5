-- A road network cut into cells by where its vertices lie (this project's rule).
use Rattle.std.specs.Prelude.{◌≡◌, ℕ, ℤ, pos, ◌+ℤ◌, List, [], ◌∷◌, ◌++◌, filter, get_or, map, nat_lt}
use Rattle.road_base.specs.declared.coordinates.Point.{Point}
use Rattle.edge_graph.specs.NetworkView.{NetworkView, copies_in, graph_of, vertices_of}
use Rattle.road_segments.specs.Vertex.{Vertex}
use Rattle.cell_partition.specs.Halving.{IsHalvedBy}
use Rattle.cell_frame.specs.Borders.{Framed, IsFramed}
use Rattle.via_paths.specs.Forbidden.{last_of}

-- a network, and a frame
pub record RoadsView : Type 0 where
  pub network : NetworkView
  pub frame : Framed

-- twice the point halfway between two: the sum of both, longitude first, in microdegrees
abbrev pub midpoint_between : Point → Point → ℤ × ℤ
midpoint_between from to = (from.lon +ℤ to.lon, from.lat +ℤ to.lat)

abbrev pub midpoint_of : Vertex → ℤ × ℤ
midpoint_of v = midpoint_between v.from v.to

-- a copy lies where its vertex does
abbrev pub midpoint_for : List (ℤ × ℤ) → List ℕ → ℤ × ℤ
midpoint_for ordinary word = get_or ordinary (last_of word) (pos 0, pos 0)

-- where the vertices of the searched graph lie, in their order
abbrev pub midpoints_of : NetworkView → List (ℤ × ℤ)
midpoints_of network =
    let ordinary = map midpoint_of (vertices_of network) in
    ordinary ++ map (midpoint_for ordinary) (copies_in network)

-- the frame is that of the network's graph: its cells are halved by these limits, and have their entries and exits
pub record IsFrameOf (network : NetworkView) (limits : List ℕ) (frame : Framed) : Type 0 where
  pub graph : frame.graph ≡ graph_of network
  pub cells : IsHalvedBy (midpoints_of network) limits frame.cells
  pub framed : IsFramed frame

-- of these limits those that are below a number of vertices
abbrev pub limits_below : ℕ → List ℕ → List ℕ
limits_below vertices limits = filter (λ limit. nat_lt limit vertices) limits

-- the limits by which a server cuts a large network
abbrev pub all_limits : List ℕ
all_limits = 256 ∷ 4096 ∷ 65536 ∷ 1048576 ∷ 16777216 ∷ []

-- the limits by which a server cuts so many vertices: a cell that may hold all of them would have no border
abbrev pub server_limits : ℕ → List ℕ
server_limits vertices = limits_below vertices all_limits
