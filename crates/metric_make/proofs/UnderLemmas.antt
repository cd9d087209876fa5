-- What vertices and turns cost under rows, beside what they cost by the profile.
use Rattle.std.proofs.Common.{◌≡◌, ℕ, ◌+◌, ◌*◌, ◌^◌, ◌<◌, Bool, true, false, cond, List, [], length, map, Option, Some, None, arith, refl, sym, ap, ◌∙◌, subst}
use Rattle.std.specs.Prelude.{option_map}
use Rattle.std.specs.List.{slice_get}
use Rattle.std.proofs.lemmas.List.{length-map}
use Rattle.std.proofs.lemmas.Option.{same_Some, slice_get-map}
use Rattle.list_lemmas.proofs.Gets.{get_append, get_some}
use Rattle.geo_integer.specs.Plane.{length_of}
use Rattle.geo_integer.specs.Position.{position_of}
use Rattle.edge_graph.specs.NetworkView.{NetworkView, graph_of, turn_graph, vertices_of}
use Rattle.edge_graph.specs.Sound.{IsSoundNetwork}
use Rattle.road_segments.specs.Laws.{length-vertices}
use Rattle.road_segments.specs.Vertex.{Vertex}
use Rattle.search_graph.specs.Digraph.{IsArc}
use Rattle.search_graph.specs.declared.costs.WeightDurLen.{WeightDurLen}
use Rattle.traffic_files.specs.declared.rows.SpeedRow.{SpeedRow}
use Rattle.traffic_files.specs.declared.rows.TurnRow.{TurnRow}
use Rattle.metric_make.specs.CopyLaws.{turn-by_ends}
use Rattle.metric_make.specs.MetricOf.{arc_cost, cost_of, cost_under, turn_cost, turn_cost_of, turn_cost_under, vertex_cost, with_copies}
use Rattle.metric_make.specs.TrafficRows.{speed_for}
use Rattle.metric_make.specs.TurnParts.{row_at, turning_at, waiting_at}
use Rattle.metric_make.proofs.CostLemmas.{cost-parts}
use Rattle.metric_make.proofs.LengthLemmas.{length-bound}

-- the length of a vertex
abbrev long : Vertex → ℕ
long x = length_of (position_of x.from) (position_of x.to)

cost-by : (by_distance : Bool) (rows : List SpeedRow) (x : Vertex) (b : Bool) → x.permitted ≡ b → vertex_cost by_distance rows x ≡ cond b (cost_under by_distance (long x) x.speed (speed_for rows x.tail x.head)) None
cost-by by_distance rows x b e = ap (λ (c : Bool). cond c (cost_under by_distance (long x) x.speed (speed_for rows x.tail x.head)) None) e

-- what is closed by the profile isn't permitted, and closed under all rows
pub closed-by_profile : (by_distance : Bool) (rows : List SpeedRow) (x : Vertex) → vertex_cost by_distance [] x ≡ None → (x.permitted ≡ false) × (vertex_cost by_distance rows x ≡ None)
closed-by_profile by_distance rows x none = by-use x.permitted refl where
  by-use : (b : Bool) → x.permitted ≡ b → (x.permitted ≡ false) × (vertex_cost by_distance rows x ≡ None)
  by-use true e = let some : vertex_cost by_distance [] x ≡ Some (cost_of by_distance (long x) x.speed None) = cost-by by_distance [] x true e in cc
  by-use false e = (e, cost-by by_distance rows x false e)

-- what is open by the profile is permitted, and costs what it does at its own speed
pub open-by_profile : (by_distance : Bool) (x : Vertex) (cost : WeightDurLen) → vertex_cost by_distance [] x ≡ Some cost → (x.permitted ≡ true) × (cost ≡ cost_of by_distance (long x) x.speed None)
open-by_profile by_distance x cost some = by-use x.permitted refl where
  by-use : (b : Bool) → x.permitted ≡ b → (x.permitted ≡ true) × (cost ≡ cost_of by_distance (long x) x.speed None)
  by-use true e = (e, same_Some cost (cost_of by_distance (long x) x.speed None) (sym some ∙ cost-by by_distance [] x true e))
  by-use false e = let none : vertex_cost by_distance [] x ≡ None = cost-by by_distance [] x false e in cc

module _ (by_distance : Bool) (rows : List SpeedRow) (x : Vertex) (cost : WeightDurLen) (paid : vertex_cost by_distance [] x ≡ Some cost) where
  -- its length is that between its points
  length-is : cost.length ≡ long x
  length-is = ap (λ (y : WeightDurLen). y.length) (open-by_profile by_distance x cost paid).1

  pub length-short : cost.length < 2 ^ 29
  length-short = subst (λ (n : ℕ). n < 2 ^ 29) (sym length-is) (length-bound x.from x.to)

  -- where no row is for it, it costs that
  pub cost-without_row : speed_for rows x.tail x.head ≡ None → vertex_cost by_distance rows x ≡ Some cost
  cost-without_row none =
      cost-by by_distance rows x true (open-by_profile by_distance x cost paid).0
      ∙ ap (λ (row : Option SpeedRow). cost_under by_distance (long x) x.speed row) none
      ∙ ap Some (sym (open-by_profile by_distance x cost paid).1)

  -- where one is, what it says for that length
  pub cost-with_row : (row : SpeedRow) → speed_for rows x.tail x.head ≡ Some row → vertex_cost by_distance rows x ≡ cost_under by_distance cost.length x.speed (Some row)
  cost-with_row row some =
      cost-by by_distance rows x true (open-by_profile by_distance x cost paid).0
      ∙ ap (λ (o : Option SpeedRow). cost_under by_distance (long x) x.speed o) some
      ∙ ap (λ (n : ℕ). cost_under by_distance n x.speed (Some row)) (sym length-is)

-- what was read of the costs by the profile is that of a vertex of the network
pub profile-read : (network : NetworkView) (costs : List (Option WeightDurLen)) (v : ℕ) (cost : Option WeightDurLen) → v < 2 * length network.segments
    → costs ≡ with_copies network (map (vertex_cost network.profile.by_distance []) (vertices_of network)) → slice_get costs v ≡ Some cost
    → option_map (vertex_cost network.profile.by_distance []) (slice_get (vertices_of network) v) ≡ Some cost
profile-read network costs v cost lt are read =
    let f : Vertex → Option WeightDurLen = vertex_cost network.profile.by_distance [] in
    let vs = vertices_of network in
    let own = get_some (map (vertex_cost network.profile.by_distance []) (vertices_of network)) v (omega (arith, length-map (vertices_of network) (vertex_cost network.profile.by_distance []), length-vertices network.segments, lt)) in
    let whole : slice_get costs v ≡ Some own.0 = ap (λ (l : List (Option WeightDurLen)). slice_get l v) are ∙ get_append (map (vertex_cost network.profile.by_distance []) (vertices_of network)) _ v own.0 own.1 in
    let same : own.0 ≡ cost = same_Some own.0 cost (sym whole ∙ read) in
    sym (slice_get-map (vertex_cost network.profile.by_distance []) (vertices_of network) v) ∙ own.1 ∙ ap Some same

-- what the profile takes for a turn, by its parts
pub profile-parts : (network : NetworkView) (from to : ℕ) (d e : Vertex) → slice_get (vertices_of network) from ≡ Some d → slice_get (vertices_of network) to ≡ Some e
    → turn_cost network [] (from, to) ≡ turn_cost_of network.profile.by_distance
    (turning_at network from to (slice_get (vertices_of network) from) (slice_get (vertices_of network) to) + waiting_at network (slice_get (vertices_of network) from)) None
profile-parts network from to d e at next =
    let vs = vertices_of network in
    let penalty = turning_at network from to (slice_get (vertices_of network) from) (slice_get (vertices_of network) to) + waiting_at network (slice_get (vertices_of network) from) in
    let none : row_at [] (slice_get (vertices_of network) from) (slice_get (vertices_of network) to) ≡ None =
    ap (λ (o : Option Vertex). row_at [] o (slice_get (vertices_of network) to)) at ∙ ap (λ (o : Option Vertex). row_at [] (Some d) o) next in
    cost-parts network from to d e at next [] ∙ ap (λ (o : Option TurnRow). turn_cost_under network.profile.by_distance penalty o) none

-- what was read of the costs by the profile is that of a turn
pub turn-read_cost : (network : NetworkView) → IsSoundNetwork network → (costs : List WeightDurLen) (i from to : ℕ) (cost : WeightDurLen) → costs ≡ map (arc_cost network []) (graph_of network).arcs
    → IsArc (turn_graph network) i from to → slice_get costs i ≡ Some cost → cost ≡ turn_cost network [] (from, to)
turn-read_cost network sound costs i from to cost are turn read =
    same_Some cost (turn_cost network [] (from, to)) (sym read ∙ ap (λ (l : List WeightDurLen). slice_get l i) are ∙ turn-by_ends network sound (turn_cost network []) i from to turn)

-- a turn that costs this by the profile, under the row for it
pub turn-under : (network : NetworkView) (rows : List TurnRow) (from to : ℕ) (d e : Vertex) (cost new : WeightDurLen) → slice_get (vertices_of network) from ≡ Some d → slice_get (vertices_of network) to ≡ Some e
    → cost ≡ turn_cost network [] (from, to)
    → ((penalty : ℕ) → cost ≡ turn_cost_of network.profile.by_distance penalty None → new ≡ turn_cost_under network.profile.by_distance penalty (row_at rows (slice_get (vertices_of network) from) (slice_get (vertices_of network) to)))
    → new ≡ turn_cost network rows (from, to)
turn-under network rows from to d e cost new at next own under =
    under _ (own ∙ profile-parts network from to d e at next) ∙ sym (cost-parts network from to d e at next rows)
