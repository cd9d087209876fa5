use Rattle.std.proofs.Common.{◌<◌, ◌++◌, length, arith, ap, subst, sym, ◌∙◌}
use Rattle.search_graph.specs.declared.costs.WeightDurLen.{WeightDurLen}
use Rattle.search_graph.specs.Digraph.{Digraph, Weighting}
use Rattle.metric_make.specs.MetricOf.{AreWithinUnit}
use Rattle.road_places.specs.Ends.{AreAll}
use Rattle.edge_graph.specs.GraphLaws.{segments-in-graph}
use Rattle.road_places.specs.Permitted.{IsTarget}
use Rattle.edge_graph.specs.NetworkView.{NetworkView}
use Rattle.road_walks.specs.Searched.{all_at_copies}
use Rattle.road_walks.proofs.TurnLemmas.{target-fits}
use Rattle.road_walks.proofs.CopyLemmas.{targets-with_copies}
use Rattle.road_walks.proofs.by_turns.targets_to.Goals as goal

-- both vertices of a place's segment are vertices of the network
pub targets-requires-clause-few : goal.targets-requires-clause-few
targets-requires-clause-few c = omega (arith, c.requires.on_segment, segments-in-graph c.args.under.now.road.network, c.base-base.ensures.small.vertices, c.base-base.ensures.small.few)

pub targets-requires-clause-in_range : goal.targets-requires-clause-in_range
targets-requires-clause-in_range c =
    let same = ap (λ (w : Weighting WeightDurLen). length w.vertex) c.base-base.ensures.value in
    omega (arith, same, c.requires.on_segment, segments-in-graph c.args.under.now.road.network, c.base-base.ensures.small.vertices)

-- the targets are those under the road's own costs, with those at copies
pub returns-clause-all : goal.returns-clause-all
returns-clause-all c =
    let road = c.args.under.now.road in
    let first = c.in_ok-targets.targets.items in
    let own = subst (λ (w : Weighting WeightDurLen). AreAll (IsTarget w c.args.to) first) c.base-base.ensures.value c.in_ok-targets.ensures in
    targets-with_copies road c.args.to c.requires first own c.add_copies.new.targets.items
    (c.in_ok-add_copies.ensures ∙ ap (λ (network : NetworkView). first ++ all_at_copies network first) c.network.ensures)

pub returns-clause-fit : goal.returns-clause-fit
returns-clause-fit c = λ t h.
    let units = subst AreWithinUnit (c.weights-units.ensures.value ∙ c.base-base.ensures.value) c.weights-units.ensures.unit in
    let fits = target-fits c.args.under.now.road c.args.to c.requires units t ((returns-clause-all c).each t h) in
    (subst (λ (g : Digraph). t.vertex < g.vertices) (sym c.frame-graph.ensures.graph) fits.0, fits.1)
