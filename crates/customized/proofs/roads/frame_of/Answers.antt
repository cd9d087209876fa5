use Rattle.std.proofs.Common.{◌≡◌, length, arith, ap, sym, ◌∙◌}
use Rattle.search_graph.specs.Digraph.{Digraph}
use Rattle.customized.proofs.MidpointLemmas.{length-midpoints}
use Rattle.customized.specs.Framing.{midpoints_of}
use Rattle.customized.proofs.roads.frame_of.Goals as goal

-- there is a midpoint for each vertex of the searched graph
pub cells-requires-clause-few : goal.cells-requires-clause-few
cells-requires-clause-few c =
    let network = c.args.network.now in
    let listed : length c.deref.result.now ≡ length (midpoints_of network) = ap length (c.deref.ensures.value ∙ c.in_ok-midpoints.ensures) in
    omega (arith, listed, length-midpoints network, c.graph-graph.ensures.few)

pub of-requires : goal.of-requires
of-requires c =
    let network = c.args.network.now in
    let listed : length c.deref.result.now ≡ length (midpoints_of network) = ap length (c.deref.ensures.value ∙ c.in_ok-midpoints.ensures) in
    c.in-Ok.ensures.halved.vertices ∙ listed ∙ length-midpoints network ∙ sym (ap (λ (g : Digraph). g.vertices) c.graph-graph.ensures.value)
