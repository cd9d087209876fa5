use Rattle.std.proofs.Common.{◌≡◌, ℕ, ◌*◌, length, arith, ap, subst, ◌∙◌}
use Rattle.edge_graph.specs.GraphLaws.{graph-vertices}
use Rattle.edge_graph.specs.NetworkParts.{IsGraphOf}
use Rattle.edge_graph.specs.NetworkView.{NetworkView, copies_in}
use Rattle.edge_graph.proofs.NetworkLemmas.{copies-many, stood-below}
use Rattle.edge_graph.proofs.networks.Network.stands_for.Goals as goal

pub stands_at-requires : goal.stands_at-requires
stands_at-requires c =
    let network : NetworkView = c.args.self.now in
    let its : IsGraphOf (2 * length network.segments) network.turns network.forbidden c.self.inside.stands_for.items c.self.inside.graph =
    subst (λ (n : NetworkView). IsGraphOf (2 * length n.segments) n.turns n.forbidden c.self.inside.stands_for.items c.self.inside.graph) c.self.view_is c.self.invariant.is in
    let many : length c.self.inside.stands_for.items ≡ length (copies_in network) = copies-many network c.self.inside.graph c.self.inside.stands_for.items its in
    let same : length c.self.inside.roads ≡ length network.segments = ap (λ (n : NetworkView). length n.segments) c.self.view_is in
    omega (arith, c.requires, graph-vertices network, many, same, c.len.ensures)

pub returns-clause-ordinary : goal.returns-clause-ordinary
returns-clause-ordinary c =
    let network : NetworkView = c.args.self.now in
    let its : IsGraphOf (2 * length network.segments) network.turns network.forbidden c.self.inside.stands_for.items c.self.inside.graph =
    subst (λ (n : NetworkView). IsGraphOf (2 * length n.segments) n.turns n.forbidden c.self.inside.stands_for.items c.self.inside.graph) c.self.view_is c.self.invariant.is in
    let same : 2 * c.len.result ≡ 2 * length network.segments = ap (λ (k : ℕ). 2 * k) (c.len.ensures.value ∙ ap (λ (n : NetworkView). length n.segments) c.self.view_is) in
    stood-below network c.self.inside.graph c.self.inside.stands_for.items its (2 * c.len.result) c.deref.result.now same c.deref.ensures.value
    c.args.q c.stands_at.result c.requires c.stands_at.ensures
