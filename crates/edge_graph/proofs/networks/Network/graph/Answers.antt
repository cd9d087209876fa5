use Rattle.std.proofs.Common.{◌*◌, ◌≤◌, length, arith, subst}
use Rattle.edge_graph.specs.BuildCause.{IsWithinLimits}
use Rattle.edge_graph.specs.LimitLaws.{few_units}
use Rattle.edge_graph.specs.NetworkParts.{IsGraphOf}
use Rattle.edge_graph.specs.NetworkView.{NetworkView}
use Rattle.road_segments.specs.Limits.{most_segments}
use Rattle.edge_graph.proofs.NetworkLemmas.{graph-is, limits-is}
use Rattle.edge_graph.proofs.networks.Network.graph.Goals as goal

pub returns-clause-value : goal.returns-clause-value
returns-clause-value c =
    let network : NetworkView = c.args.self.now in
    let its : IsGraphOf (2 * length network.segments) network.turns network.forbidden c.self.inside.stands_for.items c.self.inside.graph =
    subst (λ (n : NetworkView). IsGraphOf (2 * length n.segments) n.turns n.forbidden c.self.inside.stands_for.items c.self.inside.graph) c.self.view_is c.self.invariant.is in
    graph-is network c.self.inside.graph c.self.inside.stands_for.items its

pub returns-clause-limits : goal.returns-clause-limits
returns-clause-limits c =
    let network : NetworkView = c.args.self.now in
    let its : IsGraphOf (2 * length network.segments) network.turns network.forbidden c.self.inside.stands_for.items c.self.inside.graph =
    subst (λ (n : NetworkView). IsGraphOf (2 * length n.segments) n.turns n.forbidden c.self.inside.stands_for.items c.self.inside.graph) c.self.view_is c.self.invariant.is in
    let segments : length network.segments ≤ most_segments = subst (λ (n : NetworkView). length n.segments ≤ most_segments) c.self.view_is c.self.invariant.few_segments in
    limits-is network c.self.inside.graph c.self.inside.stands_for.items its segments c.self.invariant.few_copies c.self.invariant.few_arcs

pub returns-clause-few : goal.returns-clause-few
returns-clause-few c =
    let network : NetworkView = c.args.self.now in
    let its : IsGraphOf (2 * length network.segments) network.turns network.forbidden c.self.inside.stands_for.items c.self.inside.graph =
    subst (λ (n : NetworkView). IsGraphOf (2 * length n.segments) n.turns n.forbidden c.self.inside.stands_for.items c.self.inside.graph) c.self.view_is c.self.invariant.is in
    let segments : length network.segments ≤ most_segments = subst (λ (n : NetworkView). length n.segments ≤ most_segments) c.self.view_is c.self.invariant.few_segments in
    let limits : IsWithinLimits network = limits-is network c.self.inside.graph c.self.inside.stands_for.items its segments c.self.invariant.few_copies c.self.invariant.few_arcs in
    omega (arith, few_units network limits)
