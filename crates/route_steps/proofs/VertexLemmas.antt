-- What a network tells of a vertex is what the definitions say of it.
use Rattle.std.proofs.Common.{◌≡◌, ℕ, ◌/◌, ◌%◌, ◌≢◌, List, [], Option, None, Some, arith, ap, ap₂, ◌∙◌}
use Rattle.std.specs.Prelude.{option_map}
use Rattle.std.specs.List.{slice_get}
use Rattle.std.specs.Option.{option_map_or}
use Rattle.std.proofs.lemmas.Option.{same_Some}
use Rattle.road_base.specs.declared.coordinates.Point.{Point}
use Rattle.geo_integer.specs.Bearing.{bearing_of}
use Rattle.geo_integer.specs.Position.{position_of}
use Rattle.road_segments.specs.Laws.{vertices-even, vertices-odd}
use Rattle.edge_graph.specs.NetworkView.{NetworkView, vertices_of}
use Rattle.road_segments.specs.Segment.{Segment}
use Rattle.road_segments.specs.Vertex.{Vertex}
use Rattle.metric_make.specs.MetricOf.{bearing_along}
use Rattle.route_steps.specs.Turnings.{bearing_on, name_on}
use Rattle.route_steps.proofs.PointLemmas.{told}

-- what is told of an element is told of it with a default too
option_map_or-told : {X Y : Type 0} (f : X → Y) (o : Option X) (y d : Y) → option_map f o ≡ Some y → option_map_or f o d ≡ y
option_map_or-told f None y d e = cc
option_map_or-told f (Some x) y d e = same_Some (f x) y e

pub name_on-told : (network : NetworkView) (v : ℕ) (name : List ℕ) → option_map (λ (x : Vertex). x.name) (slice_get (vertices_of network) v) ≡ Some name → name_on network v ≡ name
name_on-told network v name e = option_map_or-told (λ (x : Vertex). x.name) (slice_get (vertices_of network) v) name [] e

module _ (network : NetworkView) (v : ℕ) (from to : Point) (e : option_map {U = Point × Point} (λ (s : Segment). (s.from, s.to)) (slice_get network.segments (v / 2)) ≡ Some (from, to)) where
  -- a vertex in the order of its way leads from where its segment begins to where it ends
  pub bearing_on-even : v % 2 ≡ 0 → bearing_on network v ≡ bearing_of (position_of from) (position_of to)
  bearing_on-even even =
      let t = told (slice_get network.segments (v / 2)) from to e in
      ap (λ (o : Option Vertex). option_map_or bearing_along o 0) (vertices-even network.segments (v / 2) t.segment v t.is_segment (omega arith))
      ∙ ap₂ (λ (a b : Point). bearing_of (position_of a) (position_of b)) t.is_from t.is_to

  -- one against it the other way
  pub bearing_on-odd : v % 2 ≢ 0 → bearing_on network v ≡ bearing_of (position_of to) (position_of from)
  bearing_on-odd odd =
      let t = told (slice_get network.segments (v / 2)) from to e in
      ap (λ (o : Option Vertex). option_map_or bearing_along o 0) (vertices-odd network.segments (v / 2) t.segment v t.is_segment (omega arith))
      ∙ ap₂ (λ (a b : Point). bearing_of (position_of a) (position_of b)) t.is_to t.is_from
