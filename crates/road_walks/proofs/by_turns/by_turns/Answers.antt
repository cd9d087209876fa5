use Rattle.std.proofs.Common.{◌*◌, ◌<◌, List, length, subst, sym}
use Rattle.std.specs.Prelude.{option_map}
use Rattle.road_places.specs.Ends.{AreAll}
use Rattle.road_places.specs.Permitted.{IsStart, IsTarget}
use Rattle.std.specs.List.{Contains}
use Rattle.search_graph.specs.declared.costs.WeightDurLen.{WeightDurLen}
use Rattle.search_graph.specs.declared.ends.Start.{Start}
use Rattle.search_graph.specs.declared.ends.Target.{Target}
use Rattle.edge_graph.specs.NetworkView.{graph_of}
use Rattle.edge_graph.specs.Sound.{IsSoundNetwork}
use Rattle.road_walks.specs.Choosing.{route_of}
use Rattle.road_walks.specs.Searched.{IsTargetIn}
use Rattle.road_walks.specs.WalkLaws.{stands_for_walks}
use Rattle.road_walks.proofs.TurnLemmas.{cheapest-bound, found-within, free-least}
use Rattle.road_walks.proofs.by_turns.by_turns.Goals as goal

-- the starts and targets fit
pub over_graph-requires-clause-starts : goal.over_graph-requires-clause-starts
over_graph-requires-clause-starts c = λ s h. c.in_ok-starts.ensures.fit s (subst (λ (x : List (Start WeightDurLen)). Contains x s) c.deref.ensures.value h)

pub over_graph-requires-clause-targets : goal.over_graph-requires-clause-targets
over_graph-requires-clause-targets c = λ t h. c.in_ok-targets.ensures.fit t (subst (λ (x : List (Target WeightDurLen)). Contains x t) c.deref-2.ensures.value h)

-- what the search found has the graph's vertices
pub route_of-requires : goal.route_of-requires
route_of-requires c =
    let road = c.args.under.now.road in
    rw c.network-network.ensures
    (found-within (graph_of road.network) road.weights c.base-small.ensures.small.vertices c.deref.result.now c.deref-2.result.now c.in_ok-found.found c.in_ok-found.ensures)

-- it stands for the least walk
pub returns-clause-least : goal.returns-clause-least
returns-clause-least c =
    let road = c.args.under.now.road in
    let starts = c.deref.result.now in
    let targets = c.deref-2.result.now in
    let sound = subst IsSoundNetwork c.network-network.ensures c.graph-sound.ensures.sound in
    let start_list = sym c.deref.ensures.value in
    let all = subst (AreAll (IsStart road.weights c.args.from)) start_list c.in_ok-starts.ensures.all in
    let ordinary : (s : Start WeightDurLen) → Contains starts s → s.vertex < 2 * length road.network.segments =
    λ s h. c.in_ok-starts.ensures.ordinary s (subst (λ (x : List (Start WeightDurLen)). Contains x s) c.deref.ensures.value h) in
    rw c.route_of.ensures
    (rw c.network-network.ensures
    (free-least road c.args.from c.args.to starts all (option_map (route_of road.network) c.in_ok-found.found)
    (stands_for_walks road sound c.base-small.ensures.alike starts ordinary (IsTarget road.weights c.args.to) targets
    (subst (AreAll (IsTargetIn road c.args.to)) (sym c.deref-2.ensures.value) c.in_ok-targets.ensures.all)
    c.in_ok-found.found c.in_ok-found.ensures)))

-- and it costs no more than the graph's vertices allow
pub returns-clause-bound : goal.returns-clause-bound
returns-clause-bound c =
    let road = c.args.under.now.road in
    rw c.route_of.ensures
    (rw c.network-network.ensures
    (cheapest-bound road c.deref.result.now c.deref-2.result.now c.base-small.ensures.small
    (λ s h. (c.in_ok-starts.ensures.fit s (subst (λ (x : List (Start WeightDurLen)). Contains x s) c.deref.ensures.value h)).1)
    (λ t h. (c.in_ok-targets.ensures.fit t (subst (λ (x : List (Target WeightDurLen)). Contains x t) c.deref-2.ensures.value h)).1)
    c.in_ok-found.found c.in_ok-found.ensures))
