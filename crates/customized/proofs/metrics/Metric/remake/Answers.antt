-- What was exact for the old costs is brought up to date for the places where these and the new ones differ, under each
-- exclusion.
use Rattle.std.proofs.Common.{◌≡◌, All, sym, ap, subst, ◌∙◌}
use Rattle.std.specs.List.{AllZip}
use Rattle.search_graph.specs.Digraph.{Digraph}
use Rattle.search_graph.specs.RoadCosts.{road_cost_ops}
use Rattle.search_graph.specs.Weighted.{AreSmall}
use Rattle.edge_graph.specs.NetworkView.{NetworkView, graph_of}
use Rattle.cell_frame.specs.Borders.{Framed}
use Rattle.cell_recustomize.specs.Changes.{FitGraph}
use Rattle.customized.specs.Exact.{Customized, IsExact, excluding}
use Rattle.customized.specs.Excluding.{exclusions, weights_under}
use Rattle.customized.specs.Framing.{RoadsView}
use Rattle.customized.proofs.ExclusionLemmas.{exact-for_each, fit-all, kept-for_each, remade-by, weights_under-small}
use Rattle.customized.proofs.metrics.Metric.remake.Goals as goal

pub changes-requires-clause-before : goal.changes-requires-clause-before
changes-requires-clause-before g c =
    let network = c.args.old.now.road.network in
    let graphs : c.graph.result.now ≡ graph_of network = c.graph.ensures ∙ ap (λ (f : Framed). f.graph) c.frame-frame.ensures.value ∙ c.frame-frame.ensures.graph in
    let listed : c.deref.result.now ≡ weights_under network c.args.old.now.road.weights =
    c.deref.ensures.value ∙ c.in_ok-before.ensures ∙ c.old.invariant.weights ∙ ap (λ (m : Customized). weights_under m.road.network m.road.weights) c.old.view_is in
    subst (λ (h : Digraph). All (FitGraph h) c.deref.result.now) (sym graphs)
    (subst (All (FitGraph (graph_of network))) (sym listed) (fit-all (graph_of network) (weights_under network c.args.old.now.road.weights) (weights_under-small network c.args.old.now.road.weights c.base-small.ensures.small)))

pub changes-requires-clause-after : goal.changes-requires-clause-after
changes-requires-clause-after g c =
    let network = c.in_ok-roads.roads.network in
    let graphs : c.graph.result.now ≡ graph_of network =
    c.graph.ensures ∙ ap (λ (f : Framed). f.graph) c.frame-frame.ensures.value ∙ c.frame-frame.ensures.graph ∙ sym (ap (λ (m : Customized). graph_of m.road.network) c.old.view_is) ∙ sym (ap (λ (r : RoadsView). graph_of r.network) c.in_ok-roads.ensures) in
    let listed : c.deref-2.result.now ≡ weights_under network c.args.base.weights =
    c.deref-2.ensures.value ∙ c.in_ok-after.ensures ∙ c.in_ok-bases.ensures.weights ∙ ap (λ (n : NetworkView). weights_under n c.args.base.weights) c.network.ensures in
    subst (λ (h : Digraph). All (FitGraph h) c.deref-2.result.now) (sym graphs)
    (subst (All (FitGraph (graph_of network))) (sym listed) (fit-all (graph_of network) (weights_under network c.args.base.weights) (weights_under-small network c.args.base.weights c.known_small.ensures.network)))

pub recustomize_all-requires-clause-small : goal.recustomize_all-requires-clause-small
recustomize_all-requires-clause-small g c κs within =
    let network = c.in_ok-roads.roads.network in
    let graphs : c.frame-frame.result.now.graph ≡ graph_of network =
    ap (λ (f : Framed). f.graph) c.frame-frame.ensures.value ∙ c.frame-frame.ensures.graph ∙ sym (ap (λ (m : Customized). graph_of m.road.network) c.old.view_is) ∙ sym (ap (λ (r : RoadsView). graph_of r.network) c.in_ok-roads.ensures) in
    let listed : c.deref-3.result.now ≡ weights_under network c.args.base.weights =
    c.deref-3.ensures.value ∙ c.in_ok-after.ensures ∙ c.in_ok-bases.ensures.weights ∙ ap (λ (n : NetworkView). weights_under n c.args.base.weights) c.network.ensures in
    subst (λ (h : Digraph). All (AreSmall road_cost_ops h) c.deref-3.result.now) (sym graphs) (subst (All (AreSmall road_cost_ops (graph_of network))) (sym listed) (weights_under-small network c.args.base.weights c.known_small.ensures.network))

pub recustomize_all-requires-clause-kept : goal.recustomize_all-requires-clause-kept
recustomize_all-requires-clause-kept g c κs within =
    let m = c.args.old.now in
    let w = c.args.base.weights in
    let networks : c.network.result.now ≡ m.road.network = c.network.ensures ∙ ap (λ (r : RoadsView). r.network) c.in_ok-roads.ensures ∙ ap (λ (x : Customized). x.road.network) c.old.view_is in
    let before : c.deref.result.now ≡ weights_under m.road.network m.road.weights =
    c.deref.ensures.value ∙ c.in_ok-before.ensures ∙ c.old.invariant.weights ∙ ap (λ (x : Customized). weights_under x.road.network x.road.weights) c.old.view_is in
    let items : c.in_ok-after.after.items ≡ weights_under m.road.network w = c.in_ok-after.ensures ∙ c.in_ok-bases.ensures.weights ∙ ap (λ (n : NetworkView). weights_under n w) networks in
    let exact : AllZip (λ s x. IsExact (excluding s m) x) (exclusions m.road.network) c.old.inside.cliques =
    subst (λ (x : Customized). AllZip (λ s y. IsExact (excluding s x) y) (exclusions x.road.network) c.old.inside.cliques) c.old.view_is c.old.invariant.exact in
    let between = rw (before, c.deref-2.ensures.value ∙ items) at c.in_ok-changes.ensures in
    rw (c.frame-frame.ensures.value, c.deref-3.ensures.value ∙ items, c.deref-4.ensures.value) (kept-for_each m w c.old.inside.cliques c.in_ok-changes.changes.items exact between)

pub invariant_of-metric : goal.invariant_of-metric
invariant_of-metric g c =
    let frames : c.frame-frame.result.now ≡ c.in_ok-roads.roads.frame = c.frame-frame.ensures.value ∙ sym (ap (λ (m : Customized). m.frame) c.old.view_is) ∙ sym (ap (λ (r : RoadsView). r.frame) c.in_ok-roads.ensures) in
    exact-for_each c.in_ok-roads.roads c.in_ok-bases.bases c.in_ok-made.made.sets c.network.result.now c.frame-frame.result.now c.args.base c.deref-3.result.now c.network.ensures frames
    c.in_ok-bases.ensures.plain c.in_ok-bases.ensures.weights (c.deref-3.ensures.value ∙ c.in_ok-after.ensures) c.known_small.ensures.graph c.known_small.ensures.sound c.known_small.ensures.network
    c.known_small.ensures.alike c.in_ok-made.ensures.cliques

pub returns-clause-searches : goal.returns-clause-searches
returns-clause-searches g c =
    let m = c.args.old.now in
    let w = c.args.base.weights in
    let networks : c.network.result.now ≡ m.road.network = c.network.ensures ∙ ap (λ (r : RoadsView). r.network) c.in_ok-roads.ensures ∙ ap (λ (x : Customized). x.road.network) c.old.view_is in
    let before : c.deref.result.now ≡ weights_under m.road.network m.road.weights =
    c.deref.ensures.value ∙ c.in_ok-before.ensures ∙ c.old.invariant.weights ∙ ap (λ (x : Customized). weights_under x.road.network x.road.weights) c.old.view_is in
    let after : c.deref-2.result.now ≡ weights_under m.road.network w = c.deref-2.ensures.value ∙ c.in_ok-after.ensures ∙ c.in_ok-bases.ensures.weights ∙ ap (λ (n : NetworkView). weights_under n w) networks in
    remade-by m w c.in_ok-changes.changes.items c.in_ok-made.made.searches (rw (before, after) at c.in_ok-changes.ensures) (rw (c.frame-frame.ensures.value, c.deref-4.ensures.value) at c.in_ok-made.ensures.searches)
