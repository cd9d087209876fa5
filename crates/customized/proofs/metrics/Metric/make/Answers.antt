use Rattle.std.proofs.Common.{◌≡◌, All, sym, ap, subst, ◌∙◌}
use Rattle.search_graph.specs.Digraph.{Digraph}
use Rattle.search_graph.specs.RoadCosts.{road_cost_ops}
use Rattle.search_graph.specs.Weighted.{AreSmall}
use Rattle.edge_graph.specs.NetworkView.{NetworkView, graph_of}
use Rattle.cell_frame.specs.Borders.{Framed}
use Rattle.customized.specs.Excluding.{weights_under}
use Rattle.customized.proofs.ExclusionLemmas.{exact-for_each, weights_under-small}
use Rattle.customized.proofs.metrics.Metric.make.Goals as goal

pub customize_all-requires-after_bounds : goal.customize_all-requires-after_bounds
customize_all-requires-after_bounds g c κs within =
    let network = c.in_ok-roads.roads.network in
    let base = c.args.base in
    let listed : c.deref.result.now ≡ weights_under network base.weights =
    c.deref.ensures.value ∙ c.in_ok-weights.ensures ∙ c.in_ok-bases.ensures.weights ∙ ap (λ (n : NetworkView). weights_under n base.weights) c.network.ensures in
    let graphs : c.frame.result.now.graph ≡ graph_of network = ap (λ (f : Framed). f.graph) c.frame.ensures.value ∙ c.frame.ensures.graph in
    subst (λ (g : Digraph). All (AreSmall road_cost_ops g) c.deref.result.now) (sym graphs) (subst (All (AreSmall road_cost_ops (graph_of network))) (sym listed) (weights_under-small network base.weights c.known_small.ensures.network))

-- the cliques are those of the metric's own frame and costs
pub invariant_of-result : goal.invariant_of-result
invariant_of-result g c =
    exact-for_each c.in_ok-roads.roads c.in_ok-bases.bases c.in_ok-cliques.cliques c.network.result.now c.frame.result.now c.args.base c.deref.result.now c.network.ensures c.frame.ensures.value
    c.in_ok-bases.ensures.plain c.in_ok-bases.ensures.weights (c.deref.ensures.value ∙ c.in_ok-weights.ensures) c.frame.ensures.graph c.known_small.ensures.sound c.known_small.ensures.network c.known_small.ensures.alike
    c.in_ok-cliques.ensures
