-- The least free walk from all starts to a target is the least walk by turns; what a search finds has the vertices of the
-- graph, and costs no more than these allow.
use Rattle.std.proofs.Common.{◌≡◌, ℕ, ◌*◌, ◌<◌, inl, inr, List, [], ◌∷◌, ◌++◌, length, All, Option, Some, None, sym, subst, arith}
use Rattle.std.specs.List.{Contains}
use Rattle.std.proofs.lemmas.List.Elements.{All-append, All-cons, All-nil, Contains-push, Contains-push_cases}
use Rattle.std.proofs.lemmas.Option.{slice_get_within}
use Rattle.road_base.specs.declared.segments.Place.{Place}
use Rattle.search_graph.specs.declared.costs.WeightDurLen.{WeightDurLen}
use Rattle.search_graph.specs.declared.ends.Start.{Start}
use Rattle.search_graph.specs.declared.ends.Target.{Target}
use Rattle.search_graph.specs.Digraph.{Digraph, IsOpen, Weighting}
use Rattle.search_graph.specs.RoadCosts.{road_cost_ops, road_cost_laws}
use Rattle.search_graph.specs.WeightLaws.{least_walk_units}
use Rattle.search_graph.specs.Weighted.{AreSmall}
use Rattle.std.specs.Prelude.{IfSome, option_map}
use Rattle.search_graph.specs.Walks.{IsBetween, Walk}
use Rattle.plain_search.specs.declared.found.Found.{Found}
use Rattle.path_unpack.specs.Cheapest.{IsCheapest}
use Rattle.edge_graph.specs.GraphLaws.{segments-in-graph}
use Rattle.edge_graph.specs.NetworkView.{graph_of, stands, turn_graph}
use Rattle.metric_make.specs.MetricOf.{AreWithinUnit}
use Rattle.road_places.specs.EndLaws.{start_unit, target_unit}
use Rattle.road_places.specs.Ends.{AreAll}
use Rattle.road_places.specs.Places.{IsDirection, IsPlaceOn}
use Rattle.road_places.specs.Permitted.{IsByTurns, IsStart, IsTarget}
use Rattle.road_places.specs.declared.walks.Route.{Route}
use Rattle.metric_make.specs.RoadMetric.{RoadMetric}
use Rattle.road_walks.specs.Choosing.{IsLeastOf, route_of}
use Rattle.road_walks.specs.Least.{most_units}
use Rattle.road_walks.specs.Searched.{IsFreeTo, IsTargetIn}
use Rattle.road_walks.proofs.LeastLemmas.{least-same}
use Rattle.via_paths.specs.Standing.{target_for}

-- a list of one has that one alone
pub only : (x y : Start WeightDurLen) → Contains (x ∷ []) y → x ≡ y
only x y h = elim (Contains-push_cases [] x y h) [ inl n ↦ absurd (omega (arith, n.1)) | inr e ↦ e ]

module _ (g : Digraph) (w : Weighting WeightDurLen) (starts : List (Start WeightDurLen)) (t : Target WeightDurLen) (walk : List ℕ) (d : WeightDurLen) where
  -- a walk from one of several starts is one from that start alone
  pub from-its_start : (b : IsBetween road_cost_ops g w starts t walk d) → IsBetween road_cost_ops g w (b.start ∷ []) t walk d
  from-its_start b = record {
    start = b.start;
    among = Contains-push [] b.start;
    start_open = b.start_open;
    middle = b.middle;
    last = b.last;
    paid = b.paid;
    goes = b.goes;
    arc = b.arc;
    joins = b.joins;
    target_open = b.target_open;
    is_walk = b.is_walk;
    is_cost = b.is_cost;
  }

  -- and the other way round
  pub from-all_starts : (s : Start WeightDurLen) → Contains starts s → IsBetween road_cost_ops g w (s ∷ []) t walk d → IsBetween road_cost_ops g w starts t walk d
  from-all_starts s has b = record {
    start = b.start;
    among = subst (λ (x : Start WeightDurLen). Contains starts x) (only s b.start b.among) has;
    start_open = b.start_open;
    middle = b.middle;
    last = b.last;
    paid = b.paid;
    goes = b.goes;
    arc = b.arc;
    joins = b.joins;
    target_open = b.target_open;
    is_walk = b.is_walk;
    is_cost = b.is_cost;
  }

module _ (road : RoadMetric) (p q : Place) (starts : List (Start WeightDurLen)) (are_starts : AreAll (IsStart road.weights p) starts) where
  -- a free walk from one of the starts to a target goes by turns
  pub by_turns-from : (walk : List ℕ) (d : WeightDurLen) → IsFreeTo road starts (IsTarget road.weights q) walk d → IsByTurns road p q walk d
  by_turns-from walk d f = record {
    first = f.runs.start;
    last = f.last;
    begins = are_starts.each f.runs.start f.runs.among;
    ends = f.ends;
    runs = from-its_start (turn_graph road.network) road.weights starts f.last walk d f.runs;
    free = f.free;
  }

  -- and the other way round
  pub by_turns-to : (walk : List ℕ) (d : WeightDurLen) → IsByTurns road p q walk d → IsFreeTo road starts (IsTarget road.weights q) walk d
  by_turns-to walk d b = record {
    last = b.last;
    ends = b.ends;
    runs = from-all_starts (turn_graph road.network) road.weights starts b.last walk d b.first (are_starts.every b.first b.begins) b.runs;
    free = b.free;
  }

  -- the least free walk to the targets is the least walk by turns
  pub free-least : (r : Option Route) → IsLeastOf (IsFreeTo road starts (IsTarget road.weights q)) r → IsLeastOf (IsByTurns road p q) r
  free-least r h = least-same (IsFreeTo road starts (IsTarget road.weights q)) (IsByTurns road p q) by_turns-from by_turns-to r h

-- what a search over a network's graph finds costs no more than the graph's vertices allow
pub cheapest-bound : (road : RoadMetric) (starts : List (Start WeightDurLen)) (targets : List (Target WeightDurLen)) → AreSmall road_cost_ops (graph_of road.network) road.weights
    → ((s : Start WeightDurLen) → Contains starts s → road_cost_ops.units s.cost 1) → ((t : Target WeightDurLen) → Contains targets t → road_cost_ops.units t.cost 1)
    → (found : Option (Found WeightDurLen)) → IsCheapest road_cost_ops (graph_of road.network) road.weights starts targets found → IfSome (option_map (route_of road.network) found) (λ route. road_cost_ops.units route.cost (most_units road.network))
cheapest-bound road starts targets small start_units target_units None h = tt
cheapest-bound road starts targets small start_units target_units (Some f) h =
    least_walk_units road_cost_laws (graph_of road.network) road.weights small starts h.0 start_units (target_units h.0 h.1) f.walk f.cost h.2

module _ (g : Digraph) (w : Weighting WeightDurLen) (fits : length w.vertex ≡ g.vertices) where
  -- an open vertex is one of the graph
  open-within : (v : ℕ) (x : WeightDurLen) → IsOpen w v x → v < g.vertices
  open-within v x h = subst (λ n. v < n) fits (slice_get_within w.vertex v (Some x) h)

  walk-within : (u z : ℕ) (c d : WeightDurLen) (vs : List ℕ) → Walk road_cost_ops g w u c vs z d → All (λ v. v < g.vertices) vs
  walk-within u z c d [] h = All-nil (λ v. v < g.vertices)
  walk-within u z c d (v ∷ vs) h =
      let move = h.1.1 in
      All-cons (λ x. x < g.vertices) v vs (open-within v move.1 move.3) (walk-within v z h.0 d vs h.2)

  between-within : (starts : List (Start WeightDurLen)) (t : Target WeightDurLen) (walk : List ℕ) (d : WeightDurLen) → IsBetween road_cost_ops g w starts t walk d → All (λ v. v < g.vertices) walk
  between-within starts t walk d b =
      let below : ℕ → Type 0 = λ v. v < g.vertices in
      let ends : All below (t.vertex ∷ []) = All-cons below t.vertex [] (open-within t.vertex b.target_open.0 b.target_open.1) (All-nil below) in
      let rest : All below (b.middle ++ t.vertex ∷ []) = All-append below b.middle (t.vertex ∷ []) (walk-within b.start.vertex b.last b.start.cost b.paid b.middle b.goes) ends in
      subst (All below) (sym b.is_walk) (All-cons below b.start.vertex (b.middle ++ t.vertex ∷ []) (open-within b.start.vertex b.start_open.0 b.start_open.1) rest)

  -- all vertices of a walk that a search found are vertices of the graph
  pub found-within : (starts : List (Start WeightDurLen)) (targets : List (Target WeightDurLen)) (found : Option (Found WeightDurLen)) → IsCheapest road_cost_ops g w starts targets found
      → IfSome found (λ f. All (λ v. v < g.vertices) f.walk)
  found-within starts targets None h = tt
  found-within starts targets (Some f) h = between-within starts h.0 f.walk f.cost h.2.leads

module _ (road : RoadMetric) (p : Place) (on : IsPlaceOn road.network p) where
  direction-ordinary : (v : ℕ) → IsDirection p.segment v → v < 2 * length road.network.segments
  direction-ordinary v d =
      let lt = on.on_segment in
      elim d [ inl e ↦ omega (arith, e, lt) | inr e ↦ omega (arith, e, lt) ]

  -- starts and targets of walks on roads are vertices of the network
  pub start-ordinary : (s : Start WeightDurLen) → IsStart road.weights p s → s.vertex < 2 * length road.network.segments
  start-ordinary s h = subst (λ v. v < 2 * length road.network.segments) (sym h.2.is_vertex) (direction-ordinary h.0 h.1)

  pub target-ordinary : (t : Target WeightDurLen) → IsTarget road.weights p t → t.vertex < 2 * length road.network.segments
  target-ordinary t h = subst (λ v. v < 2 * length road.network.segments) (sym h.2.is_vertex) (direction-ordinary h.0 h.1)

  module _ (unit : AreWithinUnit road.weights) where
    -- a start is a vertex of the searched graph, and costs at most one unit
    pub start-fits : (s : Start WeightDurLen) → IsStart road.weights p s → (s.vertex < (graph_of road.network).vertices) × road_cost_ops.units s.cost 1
    start-fits s h =
        let lt = start-ordinary s h in
        (omega (arith, lt, segments-in-graph road.network), start_unit road.weights p s unit h)

    -- and so a target
    pub target-fits : (t : Target WeightDurLen) → IsTargetIn road p t → (t.vertex < (graph_of road.network).vertices) × road_cost_ops.units t.cost 1
    target-fits t h = (h.within, target_unit road.weights p (target_for (stands road.network) t) on.within unit h.is)
