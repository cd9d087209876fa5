use Rattle.std.proofs.Common.{◌<◌, ◌∙◌, length, ap, subst, sym}
use Rattle.search_graph.specs.declared.costs.WeightDurLen.{WeightDurLen}
use Rattle.search_graph.specs.Digraph.{Digraph, Weighting}
use Rattle.search_graph.specs.RoadCosts.{road_cost_ops}
use Rattle.search_graph.specs.Weighted.{AreSmall}
use Rattle.path_unpack.specs.Cheapest.{IsCheapest}
use Rattle.cell_frame.specs.Borders.{Framed}
use Rattle.cell_frame.specs.Cliqued.{AreExact}
use Rattle.edge_graph.specs.NetworkView.{graph_of}
use Rattle.road_walks.proofs.by_turns.found_by.Goals as goal

-- the costs are small for the frame's graph, which is the network's
pub cheapest_from-requires-clause-weights : goal.cheapest_from-requires-clause-weights
cheapest_from-requires-clause-weights c =
    let graph = ap (λ (f : Framed). f.graph) c.frame-frame.ensures.value ∙ c.frame-frame.ensures.graph in
    let weights = c.weights.ensures.value ∙ c.base-base.ensures.value in
    subst (λ (g : Digraph). AreSmall road_cost_ops g c.weights.result.now) (sym graph)
    (subst (λ (w : Weighting WeightDurLen). AreSmall road_cost_ops (graph_of c.args.under.now.road.network) w) (sym weights) c.base-base.ensures.small)

-- the cliques are exact for just these costs
pub cheapest_from-requires-clause-cliques : goal.cheapest_from-requires-clause-cliques
cheapest_from-requires-clause-cliques c =
    let cliques = c.cliques-cliques.result.now in
    let weights = c.weights.ensures.value ∙ c.base-base.ensures.value in
    subst (λ (f : Framed). AreExact road_cost_ops f c.weights.result.now cliques (length f.cells.levels)) (sym c.frame-frame.ensures.value)
    (subst (λ (w : Weighting WeightDurLen). AreExact road_cost_ops c.args.under.now.frame w cliques (length c.args.under.now.frame.cells.levels)) (sym weights) c.cliques-cliques.ensures)

-- starts and targets are the frame's vertices
pub cheapest_from-requires-clause-starts : goal.cheapest_from-requires-clause-starts
cheapest_from-requires-clause-starts c = λ s h.
    let fits = c.requires.starts s h in
    (subst (λ (f : Framed). s.vertex < f.graph.vertices) (sym c.frame-frame.ensures.value) fits.0, fits.1)

pub cheapest_from-requires-clause-targets : goal.cheapest_from-requires-clause-targets
cheapest_from-requires-clause-targets c = λ t h.
    let fits = c.requires.targets t h in
    (subst (λ (f : Framed). t.vertex < f.graph.vertices) (sym c.frame-frame.ensures.value) fits.0, fits.1)

-- the frame's graph is the network's
pub returns-in-Ok : goal.returns-in-Ok
returns-in-Ok c =
    let road = c.args.under.now.road in
    let graph = ap (λ (f : Framed). f.graph) c.frame-frame.ensures.value ∙ c.frame-frame.ensures.graph in
    let weights = c.weights.ensures.value ∙ c.base-base.ensures.value in
    subst (λ (g : Digraph). IsCheapest road_cost_ops g road.weights c.args.starts.now c.args.targets.now c.in-Ok.found) graph
    (subst (λ (w : Weighting WeightDurLen). IsCheapest road_cost_ops c.frame-frame.result.now.graph w c.args.starts.now c.args.targets.now c.in-Ok.found) weights c.in-Ok.ensures)
