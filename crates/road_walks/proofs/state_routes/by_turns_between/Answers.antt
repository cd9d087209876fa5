use Rattle.std.proofs.Common.{List, subst, sym}
use Rattle.road_places.specs.Ends.{AreAll}
use Rattle.std.specs.List.{Contains}
use Rattle.search_graph.specs.declared.costs.WeightDurLen.{WeightDurLen}
use Rattle.search_graph.specs.declared.ends.Start.{Start}
use Rattle.search_graph.specs.declared.ends.Target.{Target}
use Rattle.edge_graph.specs.NetworkView.{graph_of}
use Rattle.road_walks.specs.Between.{IsStartAt, IsTargetAt}
use Rattle.road_walks.proofs.BetweenLemmas.{cheapest-between}
use Rattle.road_walks.proofs.TurnLemmas.{cheapest-bound, found-within}
use Rattle.road_walks.proofs.state_routes.by_turns_between.Goals as goal

-- the starts and targets fit
pub over_graph-requires-clause-starts : goal.over_graph-requires-clause-starts
over_graph-requires-clause-starts c = λ s h. c.in_ok-starts.ensures.fit s (subst (λ (x : List (Start WeightDurLen)). Contains x s) c.deref.ensures.value h)

pub over_graph-requires-clause-targets : goal.over_graph-requires-clause-targets
over_graph-requires-clause-targets c = λ t h. c.in_ok-targets.ensures.fit t (subst (λ (x : List (Target WeightDurLen)). Contains x t) c.deref-2.ensures.value h)

-- what the search found has the graph's vertices
pub route_of-requires : goal.route_of-requires
route_of-requires c =
    let road = c.args.under.now.road in
    rw c.network.ensures
    (found-within (graph_of road.network) road.weights c.base-small.ensures.small.vertices c.deref.result.now c.deref-2.result.now c.in_ok-found.found c.in_ok-found.ensures)

-- what the search found is the least walk between the two states
pub returns-clause-least : goal.returns-clause-least
returns-clause-least c =
    let road = c.args.under.now.road in
    rw c.route_of.ensures
    (rw c.network.ensures
    (cheapest-between road c.args.from c.args.to c.args.ends.0 c.args.ends.1 c.deref.result.now c.deref-2.result.now
    (subst (AreAll (IsStartAt road c.args.from c.args.ends.0)) (sym c.deref.ensures.value) c.in_ok-starts.ensures.all)
    (subst (AreAll (IsTargetAt road c.args.to c.args.ends.1)) (sym c.deref-2.ensures.value) c.in_ok-targets.ensures.all)
    c.in_ok-found.found c.in_ok-found.ensures))

-- and it costs no more than the graph's vertices allow
pub returns-clause-bound : goal.returns-clause-bound
returns-clause-bound c =
    let road = c.args.under.now.road in
    rw c.route_of.ensures
    (rw c.network.ensures
    (cheapest-bound road c.deref.result.now c.deref-2.result.now c.base-small.ensures.small
    (λ s h. (c.in_ok-starts.ensures.fit s (subst (λ (x : List (Start WeightDurLen)). Contains x s) c.deref.ensures.value h)).1)
    (λ t h. (c.in_ok-targets.ensures.fit t (subst (λ (x : List (Target WeightDurLen)). Contains x t) c.deref-2.ensures.value h)).1)
    c.in_ok-found.found c.in_ok-found.ensures))
