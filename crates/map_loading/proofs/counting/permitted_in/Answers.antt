use Rattle.std.proofs.Common.{◌≡◌, ◌∙◌, ◌≤◌, ap, arith, count_by, length, sym}
use lib.Seq.{take_all}
use Rattle.std.proofs.lemmas.Bool.Decides.{nat_tests}
use Rattle.edge_graph.specs.NetworkView.{vertices_of}
use Rattle.road_segments.specs.Vertex.{Vertex}
use Rattle.map_loading.proofs.Tallies.{count_by-step, length-vertices}
use Rattle.map_loading.proofs.counting.permitted_in.Goals as goal

pub loop-v-preserved : goal.loop-v-preserved
loop-v-preserved c = record {
  so_far = count_by-step (λ (v : Vertex). v.permitted) (vertices_of c.args.network.now) c.loop-v.v c.loop-v.count c.from-count.result c.permitted.result c.permitted.ensures c.loop-v.invariant.so_far c.from-count.ensures;
  few = grind (arith, c.loop-v.invariant.few, c.from-count.ensures);
}

pub returns : goal.returns
returns c =
    let whole : length (vertices_of c.args.network.now) ≤ c.loop-v.v = grind (arith, nat_tests, length-vertices c.args.network.now.segments, c.loop-v-test.false) in
    c.loop-v.invariant.so_far ∙ ap (count_by (λ (v : Vertex). v.permitted)) (take_all c.loop-v.v (vertices_of c.args.network.now) whole)
