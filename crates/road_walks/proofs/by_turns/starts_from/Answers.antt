use Rattle.std.proofs.Common.{◌<◌, length, arith, ap, subst, sym, ◌∙◌}
use Rattle.search_graph.specs.declared.costs.WeightDurLen.{WeightDurLen}
use Rattle.search_graph.specs.Digraph.{Digraph, Weighting}
use Rattle.metric_make.specs.MetricOf.{AreWithinUnit}
use Rattle.road_places.specs.Ends.{AreAll}
use Rattle.edge_graph.specs.GraphLaws.{segments-in-graph}
use Rattle.road_places.specs.Permitted.{IsStart}
use Rattle.road_walks.proofs.TurnLemmas.{start-fits, start-ordinary}
use Rattle.road_walks.proofs.by_turns.starts_from.Goals as goal

-- both vertices of a place's segment are vertices of the network
pub starts-requires-clause-few : goal.starts-requires-clause-few
starts-requires-clause-few c = omega (arith, c.requires.on_segment, segments-in-graph c.args.under.now.road.network, c.base-base.ensures.small.vertices, c.base-base.ensures.small.few)

pub starts-requires-clause-in_range : goal.starts-requires-clause-in_range
starts-requires-clause-in_range c =
    let same = ap (λ (w : Weighting WeightDurLen). length w.vertex) c.base-base.ensures.value in
    omega (arith, same, c.requires.on_segment, segments-in-graph c.args.under.now.road.network, c.base-base.ensures.small.vertices)

-- the starts are those under the road's own costs
pub returns-clause-all : goal.returns-clause-all
returns-clause-all c = subst (λ (w : Weighting WeightDurLen). AreAll (IsStart w c.args.from) c.in_ok-starts.starts.items) c.base-base.ensures.value c.in_ok-starts.ensures

pub returns-clause-ordinary : goal.returns-clause-ordinary
returns-clause-ordinary c = λ s h. start-ordinary c.args.under.now.road c.args.from c.requires s ((returns-clause-all c).each s h)

pub returns-clause-fit : goal.returns-clause-fit
returns-clause-fit c = λ s h.
    let units = subst AreWithinUnit (c.weights-units.ensures.value ∙ c.base-base.ensures.value) c.weights-units.ensures.unit in
    let fits = start-fits c.args.under.now.road c.args.from c.requires units s ((returns-clause-all c).each s h) in
    (subst (λ (g : Digraph). s.vertex < g.vertices) (sym c.frame-graph.ensures.graph) fits.0, fits.1)
