use Rattle.std.proofs.Common.{◌≡◌, ◌<◌, ◌↔◌, ℕ, List, [], ap, arith, eqb, map, subst, sym, ◌∙◌}
use Rattle.std.specs.List.{Contains, list_any}
use Rattle.std.proofs.lemmas.List.{take_all}
use Rattle.std.proofs.lemmas.Option.{slice_get_within}
use Rattle.list_lemmas.proofs.Gets.{Contains_get}
use Rattle.search_graph.specs.Digraph.{Digraph, IsArc, Leaves}
use Rattle.edge_graph.specs.GraphLaws.{segments-in-graph}
use Rattle.edge_graph.specs.NetworkView.{graph_of}
use Rattle.route_steps.proofs.ListLemmas.{map-more}
use Rattle.route_steps.proofs.WayLemmas.{heads-found, stood_head, stood_head-is}
use Rattle.route_steps.proofs.ways.heads_from.Goals as goal

-- a vertex of the network is one of the searched graph
pub out-row-requires : goal.out-row-requires
out-row-requires c =
    let network = c.args.network.now in
    let same : c.graph-graph.result.now.vertices ≡ (graph_of network).vertices = ap (λ (g : Digraph). g.vertices) c.graph-graph.ensures.value in
    omega (arith, same, segments-in-graph network, c.requires)

-- the row lists arcs
pub arc-ends-requires : goal.arc-ends-requires
arc-ends-requires c =
    let graph = c.graph-graph.result.now in
    let listed = Contains_get c.out-row.result c.loop-place.place c.get-arc.result c.get-arc.ensures in
    let leaves : Leaves graph c.get-arc.result c.args.d = (c.loop-place.invariant.0 c.get-arc.result).0 listed in
    slice_get_within graph.arcs c.get-arc.result (c.args.d, leaves.0) leaves.1

-- each leads onto a vertex of the searched graph
pub stands_for-requires : goal.stands_for-requires
stands_for-requires c = subst (λ (g : Digraph). c.arc-ends.result.1 < g.vertices) c.graph-graph.ensures.value c.arc-ends.ensures.in_range.1

-- one arc more
pub loop-place-preserved : goal.loop-place-preserved
loop-place-preserved c =
    let network = c.args.network.now in
    let row : List ℕ = c.out-row.result in
    let ends = c.arc-ends.result in
    let arc : IsArc (graph_of network) c.get-arc.result ends.0 ends.1 = subst (λ (g : Digraph). IsArc g c.get-arc.result ends.0 ends.1) c.graph-graph.ensures.value c.arc-ends.ensures.is in (
      c.loop-place.invariant.0,
      c.loop-place.invariant.1,
      map-more (stood_head network) row c.loop-place.place c.get-arc.result [] c.loop-place.heads.items c.push.new.self.items c.stands_for.result
          c.get-arc.ensures (c.stands_for.ensures.value ∙ sym (stood_head-is network c.get-arc.result ends.0 ends.1 arc)) c.loop-place.invariant.2 c.in_ok-push.ensures.items,
    )

-- all of them
pub returns : goal.returns
returns c =
    let network = c.args.network.now in
    let row : List ℕ = c.out-row.result in
    let leaves : (i : ℕ) → Contains row i ↔ Leaves (graph_of network) i c.args.d = subst (λ (g : Digraph). (i : ℕ) → Contains row i ↔ Leaves g i c.args.d) c.graph-graph.ensures.value c.loop-place.invariant.0 in
    λ v. ap (list_any (λ u. eqb u v)) (c.loop-place.invariant.2 ∙ ap (map (stood_head network)) (take_all c.loop-place.place row (omega arith)))
    ∙ heads-found network c.graph-graph.ensures.sound c.args.d c.requires row leaves v
