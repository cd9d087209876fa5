use Rattle.std.proofs.Common.{◌<◌, length, arith, sym, ap, subst, ◌∙◌}
use Rattle.std.specs.Option.{ForSome}
use Rattle.search_graph.specs.RoadCosts.{road_cost_ops}
use Rattle.search_graph.specs.Weighted.{AreSmall}
use Rattle.edge_graph.specs.NetworkView.{graph_of}
use Rattle.metric_make.specs.Avoiding.{avoided}
use Rattle.customized.specs.Exact.{Customized, customized_on}
use Rattle.metric_make.specs.MetricOf.{AreAlike}
use Rattle.customized.proofs.ExclusionLemmas.{alike-under, length-avoiding, small-under, weights-at}
use Rattle.customized.proofs.metrics.Metric.base.Goals as goal

pub get-requires : goal.get-requires
get-requires c k is =
    let own = c.self.inside in
    omega (arith, c.requires k is, length-avoiding own.roads.network own.bases own.bases.plain.weights c.self.invariant.weights, ap (λ (m : Customized). length m.road.network.profile.excludable) c.self.view_is)

pub returns-clause-value : goal.returns-clause-value
returns-clause-value c =
    let own = c.self.inside in
    let among : ForSome c.args.set (λ k. k < length own.roads.network.profile.excludable) = subst (λ (m : Customized). ForSome c.args.set (λ k. k < length m.road.network.profile.excludable)) (sym c.self.view_is) c.requires in
    weights-at own.roads.network own.bases own.bases.plain.weights c.get.result.now.weights c.args.set among c.self.invariant.weights c.get.ensures
    ∙ ap (λ (m : Customized). avoided m.road.network c.args.set m.road.weights) c.self.view_is

pub returns-clause-small : goal.returns-clause-small
returns-clause-small c =
    let own = c.self.inside in
    subst (λ (m : Customized). AreSmall road_cost_ops (graph_of m.road.network) (avoided m.road.network c.args.set m.road.weights)) c.self.view_is (small-under (customized_on own.roads own.bases.plain) c.args.set own.cliques c.self.invariant.exact)

pub returns-clause-alike : goal.returns-clause-alike
returns-clause-alike c =
    let own = c.self.inside in
    let among : ForSome c.args.set (λ k. k < length own.roads.network.profile.excludable) = subst (λ (m : Customized). ForSome c.args.set (λ k. k < length m.road.network.profile.excludable)) (sym c.self.view_is) c.requires in
    subst (λ (m : Customized). AreAlike m.road.network (avoided m.road.network c.args.set m.road.weights)) c.self.view_is (alike-under (customized_on own.roads own.bases.plain) c.args.set own.cliques among c.self.invariant.exact)
