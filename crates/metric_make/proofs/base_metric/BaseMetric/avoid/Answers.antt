use Rattle.std.proofs.Common.{◌≡◌, ℕ, List, Option, Some, get_or, length, arith, refl, sym, ap, ap₂, subst, ◌∙◌}
use Rattle.search_graph.specs.Digraph.{Weighting}
use Rattle.search_graph.specs.declared.costs.WeightDurLen.{WeightDurLen}
use Rattle.search_graph.specs.RoadCosts.{road_cost_ops}
use Rattle.search_graph.specs.WeightLaws.{small_from_lists}
use Rattle.edge_graph.specs.GraphLaws.{segments-in-graph}
use Rattle.edge_graph.specs.NetworkView.{graph_of}
use Rattle.metric_make.specs.Avoiding.{avoided}
use Rattle.metric_make.specs.AvoidLaws.{avoided-on, avoided-within_unit, length-avoided}
use Rattle.metric_make.specs.MetricOf.{AreWithinUnit, MetricView, with_copies}
use Rattle.way_profile.specs.Vehicle.{ProfileView}
use Rattle.metric_make.proofs.AvoidLemmas.{avoided-made}
use Rattle.metric_make.proofs.base_metric.BaseMetric.avoid.Goals as goal

-- there is a cost for each vertex of the network
pub avoided_costs-requires : goal.avoided_costs-requires
avoided_costs-requires c =
    let many : length c.args.self.now.weights.vertex ≡ (graph_of c.args.network.now).vertices = c.requires.of.weighting.vertices in
    let kept : length c.self.inside.weights.vertex ≡ length c.args.self.now.weights.vertex = ap (λ (b : MetricView). length b.weights.vertex) c.self.view_is in
    omega (arith, many, kept, segments-in-graph c.args.network.now)

pub with_copies-requires : goal.with_copies-requires
with_copies-requires c =
    let many : length c.args.self.now.weights.vertex ≡ (graph_of c.args.network.now).vertices = c.requires.of.weighting.vertices in
    let kept : length c.self.inside.weights.vertex ≡ length c.args.self.now.weights.vertex = ap (λ (b : MetricView). length b.weights.vertex) c.self.view_is in
    ap length c.in_ok-ordinary.ensures ∙ length-avoided c.args.network.now c.index-excludable-set.result c.self.inside.weights.vertex (kept ∙ many)

pub invariant_of-result : goal.invariant_of-result
invariant_of-result c =
    let network = c.args.network.now in
    let read : c.index-excludable-set.result ≡ get_or c.args.network.now.profile.excludable c.args.set c.index-excludable-set.result =
    c.index-excludable-set.is ∙ ap (λ (sets : List (List (List ℕ))). get_or sets c.args.set c.index-excludable-set.result) (c.excludable.ensures ∙ ap (λ (p : ProfileView). p.excludable) c.profile.ensures) in
    let made : c.in_ok-with_vertices.field-0 ≡ avoided network (Some c.args.set) c.self.inside.weights =
    avoided-made network c.args.set c.index-excludable-set.result c.self.inside.weights c.self.inside.weights c.in_ok-with_vertices.field-0 c.in_ok-vertex.vertex c.requires.set read refl
    (c.in_ok-vertex.ensures ∙ ap (λ (l : List (Option WeightDurLen)). with_copies network l) c.in_ok-ordinary.ensures) c.in_ok-with_vertices.ensures in
    subst AreWithinUnit (sym made) (avoided-within_unit network (Some c.args.set) c.self.inside.weights c.self.invariant)

pub returns-clause-value : goal.returns-clause-value
returns-clause-value c =
    let network = c.args.network.now in
    let read : c.index-excludable-set.result ≡ get_or c.args.network.now.profile.excludable c.args.set c.index-excludable-set.result =
    c.index-excludable-set.is ∙ ap (λ (sets : List (List (List ℕ))). get_or sets c.args.set c.index-excludable-set.result) (c.excludable.ensures ∙ ap (λ (p : ProfileView). p.excludable) c.profile.ensures) in
    let kept : c.self.inside.weights ≡ c.args.self.now.weights = ap (λ (b : MetricView). b.weights) c.self.view_is in
    let made = avoided-made network c.args.set c.index-excludable-set.result c.self.inside.weights c.args.self.now.weights c.in_ok-with_vertices.field-0 c.in_ok-vertex.vertex c.requires.set read kept
    (c.in_ok-vertex.ensures ∙ ap (λ (l : List (Option WeightDurLen)). with_copies network l) c.in_ok-ordinary.ensures) c.in_ok-with_vertices.ensures in
    ap₂ (λ (w : Weighting WeightDurLen) (n : ℕ). record { weights = w; unmatched = n }) made (ap (λ (b : MetricView). b.unmatched) c.self.view_is)

-- the costs are small as they were
pub returns-clause-on : goal.returns-clause-on
returns-clause-on c =
    let network = c.args.network.now in
    let w = c.args.self.now.weights in
    let within : AreWithinUnit w = subst (λ (b : MetricView). AreWithinUnit b.weights) c.self.view_is c.self.invariant in
    let fits = c.requires.of.weighting in
    avoided-on network c.graph-few.ensures.sound (Some c.args.set) w
    (small_from_lists road_cost_ops (graph_of network) w.vertex w.arc c.graph-few.ensures.few fits.vertices fits.arcs within.vertex within.arc) c.requires.of.alike
