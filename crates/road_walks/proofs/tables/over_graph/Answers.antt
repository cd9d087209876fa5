use Rattle.std.proofs.Common.{◌<◌, ◌∙◌, length, ap, subst, sym}
use Rattle.search_graph.specs.declared.costs.WeightDurLen.{WeightDurLen}
use Rattle.search_graph.specs.Digraph.{Digraph, Weighting}
use Rattle.search_graph.specs.RoadCosts.{road_cost_ops}
use Rattle.search_graph.specs.Weighted.{AreSmall}
use Rattle.cell_frame.specs.Borders.{Framed}
use Rattle.cell_frame.specs.Cliqued.{AreExact}
use Rattle.head_index.specs.ByHead.{AreByHead}
use Rattle.edge_graph.specs.NetworkView.{graph_of}
use Rattle.table_query.specs.Tables.{IsTable}
use Rattle.road_walks.proofs.tables.over_graph.Goals as goal

-- the costs are small for the frame's graph, which is the network's
pub table-requires-clause-weights : goal.table-requires-clause-weights
table-requires-clause-weights g c κs within =
    let graph = ap (λ (f : Framed). f.graph) c.frame-frame.ensures.value ∙ c.frame-frame.ensures.graph in
    let weights = c.weights.ensures.value ∙ c.base-base.ensures.value in
    subst (λ (g : Digraph). AreSmall road_cost_ops g c.weights.result.now) (sym graph)
    (subst (λ (w : Weighting WeightDurLen). AreSmall road_cost_ops (graph_of c.args.under.now.road.network) w) (sym weights) c.base-base.ensures.small)

-- the cliques are exact for just these costs
pub table-requires-clause-cliques : goal.table-requires-clause-cliques
table-requires-clause-cliques g c κs within =
    let cliques = c.cliques.result.now in
    let weights = c.weights.ensures.value ∙ c.base-base.ensures.value in
    subst (λ (f : Framed). AreExact road_cost_ops f c.weights.result.now cliques (length f.cells.levels)) (sym c.frame-frame.ensures.value)
    (subst (λ (w : Weighting WeightDurLen). AreExact road_cost_ops c.args.under.now.frame w cliques (length c.args.under.now.frame.cells.levels)) (sym weights) c.cliques.ensures)

-- the arcs are those of the frame's graph
pub table-requires-clause-heads : goal.table-requires-clause-heads
table-requires-clause-heads g c κs within =
    let graph = ap (λ (f : Framed). f.graph) c.frame-frame.ensures.value ∙ c.frame-frame.ensures.graph in
    subst (λ (g : Digraph). AreByHead g c.heads.result.now) (sym graph) c.heads.ensures

-- starts and targets are the frame's vertices
pub table-requires-clause-sources : goal.table-requires-clause-sources
table-requires-clause-sources g c κs within = λ list s h i.
    let fits = c.requires.sources list s h i in
    (subst (λ (f : Framed). s.vertex < f.graph.vertices) (sym c.frame-frame.ensures.value) fits.0, fits.1)

pub table-requires-clause-targets : goal.table-requires-clause-targets
table-requires-clause-targets g c κs within = λ list t h i.
    let fits = c.requires.targets list t h i in
    (subst (λ (f : Framed). t.vertex < f.graph.vertices) (sym c.frame-frame.ensures.value) fits.0, fits.1)

-- the frame's graph is the network's
pub returns-in-Ok : goal.returns-in-Ok
returns-in-Ok g c =
    let road = c.args.under.now.road in
    let graph = ap (λ (f : Framed). f.graph) c.frame-frame.ensures.value ∙ c.frame-frame.ensures.graph in
    let weights = c.weights.ensures.value ∙ c.base-base.ensures.value in
    let sources = c.args.sources.now in
    let targets = c.args.targets.now in
    subst (λ (g : Digraph). IsTable road_cost_ops g road.weights sources targets c.in-Ok.rows.items) graph
    (subst (λ (w : Weighting WeightDurLen). IsTable road_cost_ops c.frame-frame.result.now.graph w sources targets c.in-Ok.rows.items) weights c.in-Ok.ensures)
