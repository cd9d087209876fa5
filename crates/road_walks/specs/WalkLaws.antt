-- What lets a search over a network's graph stand for walks on its roads: from vertices of the network to all vertices,
-- copies too, that stand for the targets, what it finds stands for a least walk along which no forbidden sequence runs.
use Rattle.std.specs.Prelude.{◌≡◌, ℕ, ◌*◌, ◌<◌, List, Option, Some, None, option_map, map, length, get_or, All}
use Rattle.std.specs.List.{Contains}
use Rattle.std.proofs.Common.{ap, subst, sym}
use Rattle.std.proofs.lemmas.Option.{slice_get-get_or}
use Rattle.list_lemmas.proofs.Gets.{Contains_get}
use Rattle.search_graph.specs.declared.costs.WeightDurLen.{WeightDurLen}
use Rattle.search_graph.specs.declared.ends.Start.{Start}
use Rattle.search_graph.specs.declared.ends.Target.{Target}
use Rattle.search_graph.specs.Digraph.{Weighting}
use Rattle.search_graph.specs.RoadCosts.{road_cost_ops}
use Rattle.search_graph.specs.Walks.{IsBetween}
use Rattle.path_unpack.specs.Cheapest.{IsCheapest}
use Rattle.plain_search.specs.declared.found.Found.{Found}
use Rattle.table_query.specs.LeastCosts.{IsLeastAmong}
use Rattle.table_query.specs.LesserLaws.{least-same}
use Rattle.table_query.specs.Tables.{CostsBetween, IsCell}
use Rattle.edge_graph.specs.NetworkView.{NetworkView, copies_in, graph_of, stands, turn_graph}
use Rattle.edge_graph.specs.Sound.{IsSoundNetwork}
use Rattle.metric_make.specs.MetricOf.{AreAlike}
use Rattle.metric_make.specs.RoadMetric.{RoadMetric}
use Rattle.road_places.specs.Ends.{AreAll}
use Rattle.road_walks.specs.Choosing.{IsLeastOf, route_of}
use Rattle.road_walks.specs.Searched.{CanCostFreely, IsFreeTo, StandsForTarget}
use Rattle.via_paths.specs.Standing.{EndsStandForFree, target_for}
use Rattle.via_paths.specs.WalkLaws.{ends_stand_for_free}
use Rattle.via_paths.specs.PrefixLaws.{copies_of-are}

-- walks of the searched graph from vertices of the network stand for the walks over the turns along which no forbidden
-- sequence runs
pub stand-for-free : (network : NetworkView) (w : Weighting WeightDurLen) → IsSoundNetwork network → AreAlike network w
    → EndsStandForFree road_cost_ops (2 * length network.segments) network.forbidden (stands network) (turn_graph network) w (graph_of network) w
unfolding graph_of
stand-for-free network w sound alike =
    ends_stand_for_free road_cost_ops (2 * length network.segments) network.forbidden (copies_in network) network.turns sound.long
    (λ k t lt. sound.in_range k (get_or network.turns k t).0 (get_or network.turns k t).1 (slice_get-get_or network.turns k t lt)) (copies_of-are network.forbidden) w w alike

module _ (road : RoadMetric) (sound : IsSoundNetwork road.network) (alike : AreAlike road.network road.weights)
    (starts : List (Start WeightDurLen)) (ordinary : (s : Start WeightDurLen) → Contains starts s → s.vertex < 2 * length road.network.segments)
    (P : Target WeightDurLen → Type 0) (targets : List (Target WeightDurLen)) (are_targets : AreAll (StandsForTarget road.network P) targets) where
  all-ordinary : All (λ (s : Start WeightDurLen). s.vertex < 2 * length road.network.segments) starts
  all-ordinary = λ k s lt. ordinary (get_or starts k s) (Contains_get starts k (get_or starts k s) (slice_get-get_or starts k s lt))

  -- what leads to one of the targets stands for a free walk
  pub stands-for-free : (t : Target WeightDurLen) (walk : List ℕ) (d : WeightDurLen) → Contains targets t → IsBetween road_cost_ops (graph_of road.network) road.weights starts t walk d
      → IsFreeTo road starts P (map (stands road.network) walk) d
  stands-for-free t walk d h b =
      let free = (stand-for-free road.network road.weights sound alike).stand starts t walk d all-ordinary b in
      record { last = target_for (stands road.network) t; ends = (are_targets.each t h).is; runs = free.0; free = free.1 }

  -- and each free walk is stood for
  pub free-stood-for : (walk : List ℕ) (d : WeightDurLen) → IsFreeTo road starts P walk d
      → (t : Target WeightDurLen) × (other : List ℕ) × Contains targets t × IsBetween road_cost_ops (graph_of road.network) road.weights starts t other d
  free-stood-for walk d f =
      let r = (stand-for-free road.network road.weights sound alike).stood_for starts f.last walk d all-ordinary f.runs f.free in
      let t : Target WeightDurLen = record { vertex = r.0; cost = f.last.cost } in
      let same : f.last ≡ target_for (stands road.network) t = ap (λ (v : ℕ). let x : Target WeightDurLen = record { vertex = v; cost = f.last.cost } in x) (sym r.3) in
      (t, r.1, are_targets.every t (record { within = r.2; is = subst P same f.ends }), r.4)

  -- what a search finds over the network's graph stands for a least free walk over the turns, or there is none
  pub stands_for_walks : (answer : Option (Found WeightDurLen)) → IsCheapest road_cost_ops (graph_of road.network) road.weights starts targets answer
      → IsLeastOf (IsFreeTo road starts P) (option_map (route_of road.network) answer)
  stands_for_walks None h = λ walk d f. let r = free-stood-for walk d f in h r.0 r.2 r.1 d r.3
  stands_for_walks (Some found) h = (
    stands-for-free h.0 found.walk found.cost h.1 h.2.leads,
    λ walk d f. let r = free-stood-for walk d f in h.3 r.0 r.1 d r.2 r.3,
  )

  -- and so the least cost over the network's graph is the least of free walks over the turns
  pub stands_for_cells : (value : Option WeightDurLen) → IsCell road_cost_ops (graph_of road.network) road.weights starts targets value
      → IsLeastAmong road_cost_ops (CanCostFreely road starts P) value
  stands_for_cells value h =
      least-same road_cost_ops (CostsBetween road_cost_ops (graph_of road.network) road.weights starts targets) (CanCostFreely road starts P)
      (λ d k. (map (stands road.network) k.2.0, stands-for-free k.0 k.2.0 d k.1 k.2.1))
      (λ d k. let r = free-stood-for k.0 d k.1 in (r.0, r.2, (r.1, r.3)))
      value h
