-- The least of walks from one state to another is chosen from the least of one vertex and the least by turns; a search over
-- the searched graph from the starts in the one to the targets in the other finds the second.
use Rattle.std.proofs.Common.{◌≡◌, ℕ, ◌<◌, inl, inr, List, [], ◌∷◌, map, Option, Some, None, refl, subst}
use Rattle.std.specs.List.{AllZip, Contains}
use Rattle.std.specs.Prelude.{option_map}
use Rattle.list_lemmas.proofs.Fronts.{all_zip-first}
use Rattle.list_lemmas.proofs.Gets.{get_Contains}
use Rattle.road_base.specs.declared.segments.Place.{Place}
use Rattle.search_graph.specs.declared.costs.WeightDurLen.{WeightDurLen}
use Rattle.search_graph.specs.declared.ends.Start.{Start}
use Rattle.search_graph.specs.declared.ends.Target.{Target}
use Rattle.search_graph.specs.RoadCosts.{road_cost_ops, road_cost_laws}
use Rattle.search_graph.specs.Walks.{IsBetween}
use Rattle.path_unpack.specs.Cheapest.{IsCheapest}
use Rattle.plain_search.specs.declared.found.Found.{Found}
use Rattle.table_query.specs.LeastCosts.{IsLesserOf}
use Rattle.table_query.specs.LesserLaws.{EitherOf, least-either, least-same as least-cost-same}
use Rattle.table_query.specs.Tables.{CostsBetween, IsCell, IsRow, IsTable}
use Rattle.edge_graph.specs.NetworkView.{graph_of, stands}
use Rattle.metric_make.specs.RoadMetric.{RoadMetric}
use Rattle.road_places.specs.Ends.{AreAll}
use Rattle.road_places.specs.declared.walks.Route.{Route}
use Rattle.road_walks.specs.Between.{CanCostBetween, IsAlongBetween, IsByTurnsBetween, IsCostBetween, IsRouteBetween, IsStartAt, IsTargetAt, states_of}
use Rattle.road_walks.specs.BetweenParts.{AreStartsAt, AreTargetsAt, CanCostAlongBetween, CanCostByTurnsBetween, IsCostAlong, IsCostByTurns, IsRowFromState}
use Rattle.road_walks.specs.Choosing.{Either, IsLeastOf, route_of}
use Rattle.road_walks.proofs.TableLemmas.{all_zip-through}
use Rattle.road_walks.proofs.TurnLemmas.{from-all_starts, from-its_start}

module _ (road : RoadMetric) (p q : Place) (d e : ℕ) where
  -- the least of both kinds is the least
  pub route-between : (r : Option Route) → IsLeastOf (Either (IsAlongBetween road p q d e) (IsByTurnsBetween road p q d e)) r → IsRouteBetween road p q d e r
  route-between None h = h
  route-between (Some r) h = record { permitted = h.0; least = h.1 }

  -- and so the lesser of what both kinds cost
  pub cost-between : (along by_turns value : Option WeightDurLen) → IsLesserOf road_cost_ops along by_turns value → IsCostAlong road p q d e along → IsCostByTurns road p q d e by_turns → IsCostBetween road p q d e value
  cost-between along by_turns value lesser h k =
      least-cost-same road_cost_ops (EitherOf (CanCostAlongBetween road p q d e) (CanCostByTurnsBetween road p q d e)) (CanCostBetween road p q d e)
      (λ c x. elim x [ inl a ↦ (a.0, inl a.1) | inr b ↦ (b.0, inr b.1) ])
      (λ c x. elim x.1 [ inl a ↦ inl (x.0, a) | inr b ↦ inr (x.0, b) ])
      value (least-either road_cost_laws (CanCostAlongBetween road p q d e) (CanCostByTurnsBetween road p q d e) along by_turns value lesser h k)

  module _ (starts : List (Start WeightDurLen)) (targets : List (Target WeightDurLen)) (are_starts : AreAll (IsStartAt road p d) starts) (are_targets : AreAll (IsTargetAt road q e) targets) where
    -- a run from one of the starts in d to one of the targets in e
    turns-from : (t : Target WeightDurLen) → Contains targets t → (run : List ℕ) (c : WeightDurLen) → IsBetween road_cost_ops (graph_of road.network) road.weights starts t run c
        → IsByTurnsBetween road p q d e (map (stands road.network) run) c
    turns-from t h run c b = record {
      first = b.start;
      last = t;
      begins = are_starts.each b.start b.among;
      ends = are_targets.each t h;
      run = run;
      runs = from-its_start (graph_of road.network) road.weights starts t run c b;
      is_walk = refl;
    }

    turns-target : (walk : List ℕ) (c : WeightDurLen) (b : IsByTurnsBetween road p q d e walk c) → Contains targets b.last
    turns-target walk c b = are_targets.every b.last b.ends

    turns-to : (walk : List ℕ) (c : WeightDurLen) (b : IsByTurnsBetween road p q d e walk c) → IsBetween road_cost_ops (graph_of road.network) road.weights starts b.last b.run c
    turns-to walk c b = from-all_starts (graph_of road.network) road.weights starts b.last b.run c b.first (are_starts.every b.first b.begins) b.runs

    -- the cheapest of these is the least of its kind
    pub cheapest-between : (found : Option (Found WeightDurLen)) → IsCheapest road_cost_ops (graph_of road.network) road.weights starts targets found
        → IsLeastOf (IsByTurnsBetween road p q d e) (option_map (route_of road.network) found)
    cheapest-between None h = λ walk c b. h b.last (turns-target walk c b) b.run c (turns-to walk c b)
    cheapest-between (Some f) h = (turns-from h.0 h.1 f.walk f.cost h.2.leads, λ walk c b. h.3 b.last b.run c (turns-target walk c b) (turns-to walk c b))

    -- and so the least cost
    cell-between : (value : Option WeightDurLen) → IsCell road_cost_ops (graph_of road.network) road.weights starts targets value → IsCostByTurns road p q d e value
    cell-between value h =
        least-cost-same road_cost_ops (CostsBetween road_cost_ops (graph_of road.network) road.weights starts targets) (CanCostByTurnsBetween road p q d e)
        (λ c k. (map (stands road.network) k.2.0, turns-from k.0 k.1 k.2.0 c k.2.1))
        (λ c k. (k.1.last, turns-target k.0 c k.1, (k.1.run, turns-to k.0 c k.1)))
        value h

module _ (road : RoadMetric) (n : ℕ) (p q : Place) where
  row-between : (targets : List (List (Target WeightDurLen))) → AllZip (AreTargetsAt n road q) (states_of road.network q) targets → (d : ℕ) (starts : List (Start WeightDurLen)) (row : List (Option WeightDurLen)) → AreStartsAt n road p d starts
      → IsRow road_cost_ops (graph_of road.network) road.weights targets starts row → IsRowFromState road p q d row
  row-between targets t d starts row s h =
      all_zip-through (AreTargetsAt n road q) (IsCell road_cost_ops (graph_of road.network) road.weights starts) (IsCostByTurns road p q d)
      (λ e list value k cell. cell-between road p q d e starts list s.all k.all value cell) (states_of road.network q) targets row t h

  -- a table between the states of two places has what walks of two or more vertices between them cost
  pub table-between : (starts : List (List (Start WeightDurLen))) (targets : List (List (Target WeightDurLen))) (rows : List (List (Option WeightDurLen))) → AllZip (AreStartsAt n road p) (states_of road.network p) starts
      → AllZip (AreTargetsAt n road q) (states_of road.network q) targets → IsTable road_cost_ops (graph_of road.network) road.weights starts targets rows → AllZip (IsRowFromState road p q) (states_of road.network p) rows
  table-between starts targets rows s t h =
      all_zip-through (AreStartsAt n road p) (IsRow road_cost_ops (graph_of road.network) road.weights targets) (IsRowFromState road p q)
      (row-between targets t) (states_of road.network p) starts rows s h

  -- each of the starts is one of the vertices, and costs at most one unit
  pub state_starts-fit : (lists : List (List (Start WeightDurLen))) → AllZip (AreStartsAt n road p) (states_of road.network p) lists
      → (list : List (Start WeightDurLen)) (s : Start WeightDurLen) → Contains lists list → Contains list s → (s.vertex < n) × road_cost_ops.units s.cost 1
  state_starts-fit lists h list s in_lists in_list =
      let at = get_Contains lists list in_lists in
      let state = all_zip-first (AreStartsAt n road p) (states_of road.network p) lists at.0 list h at.1 in
      state.1.fit s in_list

  -- and so the targets
  pub state_targets-fit : (lists : List (List (Target WeightDurLen))) → AllZip (AreTargetsAt n road q) (states_of road.network q) lists
      → (list : List (Target WeightDurLen)) (t : Target WeightDurLen) → Contains lists list → Contains list t → (t.vertex < n) × road_cost_ops.units t.cost 1
  state_targets-fit lists h list t in_lists in_list =
      let at = get_Contains lists list in_lists in
      let state = all_zip-first (AreTargetsAt n road q) (states_of road.network q) lists at.0 list h at.1 in
      state.1.fit t in_list

-- what the least walk of one vertex costs is the least that such a walk does
pub along_between-cost : (road : RoadMetric) (p q : Place) (d e : ℕ) (route : Option Route) → IsLeastOf (IsAlongBetween road p q d e) route → IsCostAlong road p q d e (option_map (λ (r : Route). r.cost) route)
along_between-cost road p q d e None h = λ c k. h k.0 c k.1
along_between-cost road p q d e (Some route) h = ((route.walk, h.0), λ c k. h.1 k.0 c k.1)
