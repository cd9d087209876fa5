use Rattle.std.proofs.Common.{◌≡◌, ap, subst, sym, ◌∙◌}
use Rattle.head_index.specs.ByHead.{AreByHead}
use Rattle.edge_graph.specs.NetworkView.{graph_of}
use Rattle.customized.specs.Exact.{Customized}
use Rattle.customized.proofs.ExclusionLemmas.{exact-under}
use Rattle.customized.proofs.metrics.Metric.under.Goals as goal

pub invariant_of-result : goal.invariant_of-result
invariant_of-result c =
    let m = c.args.self.now in
    let graph : m.frame.graph ≡ graph_of m.road.network = subst (λ (x : Customized). x.frame.graph ≡ graph_of x.road.network) c.self.view_is c.frame.ensures.graph in (
      exact-under m c.args.set c.network.result.now c.frame.result.now c.base.result.now c.cliques.result.now (c.network.ensures ∙ ap (λ (x : Customized). x.road.network) c.self.view_is)
          (c.frame.ensures.value ∙ ap (λ (x : Customized). x.frame) c.self.view_is) c.base.ensures.value
          (record { graph = graph; small = c.base.ensures.small; alike = c.base.ensures.alike; exact = c.cliques.ensures }),
      subst (λ n. AreByHead (graph_of n) c.heads.result.now) (sym c.network.ensures) c.heads.ensures,
    )
