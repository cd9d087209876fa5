-- The copies lie where their vertices do.
use Rattle.std.proofs.Common.{◌≡◌, ℕ, ℤ, List, ◌++◌, ◌-◌, ◌*◌, length, length-append, map, take, arith, ap, ◌∙◌}
use Rattle.std.proofs.lemmas.List.{take_all}
use Rattle.edge_graph.specs.GraphLaws.{graph-vertices}
use Rattle.edge_graph.specs.NetworkView.{copies_in, vertices_of}
use Rattle.customized.specs.Framing.{midpoint_for, midpoint_of}
use Rattle.customized.proofs.MidpointLemmas.{length-ordinary, midpoints-copied}
use Rattle.customized.proofs.midpoints.midpoints.Goals as goal

-- what a copy stands for is a vertex of the network
pub index-requires : goal.index-requires
index-requires c =
    let network = c.args.network.now in
    let ordinary : List (ℤ × ℤ) = map midpoint_of (vertices_of network) in
    let copied : List (ℤ × ℤ) = map (midpoint_for ordinary) (take (c.loop-copy.copy - 2 * length network.segments) (copies_in network)) in
    let listed : length c.loop-copy.midpoints.items ≡ length (ordinary ++ copied) = ap length c.loop-copy.invariant.lie in
    omega (arith, c.loop-copy.midpoints.ok.0, listed, length-append ordinary copied, length-ordinary network, c.stands_for-vertex.ensures.ordinary)

pub loop-copy-preserved : goal.loop-copy-preserved
loop-copy-preserved c =
    let network = c.args.network.now in
    let ordinary : List (ℤ × ℤ) = map midpoint_of (vertices_of network) in
    record {
      from = omega (arith, c.loop-copy.invariant.from);
      until = c.loop-copy.invariant.until;
      lie =
          midpoints-copied ordinary c.loop-copy.midpoints.items c.push.new.self.items (2 * length network.segments) (copies_in network) c.loop-copy.copy c.stands_for-vertex.result c.index.result.now
          (length-ordinary network) c.loop-copy.invariant.from (omega (arith, c.loop-copy-test.true, c.loop-copy.invariant.until, graph-vertices network)) c.stands_for-vertex.ensures.value c.stands_for-vertex.ensures.ordinary
          c.index.ensures c.in_ok-push.ensures.items c.loop-copy.invariant.lie;
    }

-- all copies
pub returns : goal.returns
returns c =
    let network = c.args.network.now in
    let ordinary : List (ℤ × ℤ) = map midpoint_of (vertices_of network) in
    c.loop-copy.invariant.lie
    ∙ ap (λ (words : List (List ℕ)). ordinary ++ map (midpoint_for ordinary) words)
    (take_all (c.loop-copy.copy - 2 * length network.segments) (copies_in network) (omega (arith, c.loop-copy-test.false, c.loop-copy.invariant.until, graph-vertices network)))
