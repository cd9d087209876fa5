use Rattle.std.proofs.Common.{◌≡◌, ℕ, ◌*◌, length, ap, subst, ◌∙◌}
use Rattle.edge_graph.specs.NetworkParts.{IsGraphOf}
use Rattle.edge_graph.specs.NetworkView.{NetworkView}
use Rattle.edge_graph.proofs.NetworkLemmas.{turn-found}
use Rattle.edge_graph.proofs.networks.Network.turn.Goals as goal

pub returns-clause-value : goal.returns-clause-value
returns-clause-value c =
    let network : NetworkView = c.args.self.now in
    let its : IsGraphOf (2 * length network.segments) network.turns network.forbidden c.self.inside.stands_for.items c.self.inside.graph =
    subst (λ (n : NetworkView). IsGraphOf (2 * length n.segments) n.turns n.forbidden c.self.inside.stands_for.items c.self.inside.graph) c.self.view_is c.self.invariant.is in
    let same : 2 * c.len.result ≡ 2 * length network.segments = ap (λ (k : ℕ). 2 * k) (c.len.ensures.value ∙ ap (λ (n : NetworkView). length n.segments) c.self.view_is) in
    turn-found network c.self.inside.graph c.self.inside.stands_for.items its (2 * c.len.result) c.deref.result.now same c.deref.ensures.value
    c.args.d c.args.e c.requires c.arc_between.result c.arc_between.ensures
