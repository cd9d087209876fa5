use Rattle.std.proofs.Common.{ℕ, ◌<◌, ◌==◌, List, filter, map, ap, subst, sym, ◌∙◌}
use Rattle.std.specs.List.{Contains}
use Rattle.search_graph.specs.declared.costs.WeightDurLen.{WeightDurLen}
use Rattle.search_graph.specs.declared.ends.Start.{Start}
use Rattle.search_graph.specs.Digraph.{Digraph}
use Rattle.search_graph.specs.RoadCosts.{road_cost_ops}
use Rattle.edge_graph.specs.NetworkView.{NetworkView, graph_of, stands}
use Rattle.road_walks.specs.BetweenParts.{start_moved}
use Rattle.road_walks.specs.StateLaws.{state-is}
use Rattle.road_walks.proofs.KeptLemmas.{has-kept}
use Rattle.road_walks.proofs.StateLemmas.{moved-has, starts-moved}
use Rattle.road_walks.proofs.state_ends.starts_at.Goals as goal

-- a state is a vertex of the searched graph
pub stands_for-vertex-requires : goal.stands_for-vertex-requires
stands_for-vertex-requires c =
    let network = c.args.under.now.road.network in
    subst (λ (n : NetworkView). c.args.state < (graph_of n).vertices) (sym c.network.ensures) (state-is network c.args.from c.requires.placed c.args.state c.requires.state).within

-- all starts from the place at the vertex for which the state stands are moved there
pub returns-clause-all : goal.returns-clause-all
returns-clause-all c =
    let road = c.args.under.now.road in
    let vertex = c.stands_for-vertex.ensures.value ∙ ap (λ (n : NetworkView). stands n c.args.state) c.network.ensures in
    let kept = c.keep_starts.ensures ∙ ap (λ (v : ℕ). filter (λ (s : Start WeightDurLen). s.vertex == v) c.in_ok-starts.starts.items) vertex in
    starts-moved road c.args.from c.args.state c.in_ok-starts.starts.items c.keep_starts.new.starts.items c.move_starts.new.starts.items c.in_ok-starts.ensures.all kept c.move_starts.ensures

pub returns-clause-fit : goal.returns-clause-fit
returns-clause-fit c = λ s h.
    let road = c.args.under.now.road in
    let d : ℕ = c.args.state in
    let from = moved-has road c.args.from d c.keep_starts.new.starts.items s (subst (λ (list : List (Start WeightDurLen)). Contains list s) c.move_starts.ensures h) in
    let had = has-kept (λ (x : Start WeightDurLen). x.vertex) c.stands_for-vertex.result c.in_ok-starts.starts.items from.0 (subst (λ (list : List (Start WeightDurLen)). Contains list from.0) c.keep_starts.ensures from.1) in
    let within : d < (graph_of road.network).vertices = (state-is road.network c.args.from c.requires.placed d c.requires.state).within in
    let at : s.vertex < (graph_of road.network).vertices = subst (λ (x : Start WeightDurLen). x.vertex < (graph_of road.network).vertices) (sym from.2) within in
    let unit : road_cost_ops.units s.cost 1 = subst (λ (x : Start WeightDurLen). road_cost_ops.units x.cost 1) (sym from.2) (c.in_ok-starts.ensures.fit from.0 had.0).1 in
    (subst (λ (g : Digraph). s.vertex < g.vertices) (sym c.frame-graph.ensures.graph) at, unit)
