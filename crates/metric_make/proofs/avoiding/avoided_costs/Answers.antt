use Rattle.std.proofs.Common.{◌≡◌, length, arith, refl, ◌∙◌}
use Rattle.std.proofs.lemmas.List.{take_all}
use Rattle.edge_graph.specs.NetworkView.{vertices_of}
use Rattle.road_segments.specs.Laws.{length-vertices}
use Rattle.metric_make.specs.Avoiding.{avoided_costs}
use Rattle.metric_make.specs.AvoidLaws.{length-avoided_costs}
use Rattle.metric_make.proofs.AvoidLemmas.{avoided_costs-step}
use Rattle.metric_make.proofs.avoiding.avoided_costs.Goals as goal

pub loop-v-preserved : goal.loop-v-preserved
loop-v-preserved c =
    let vs = vertices_of c.args.network.now in
    avoided_costs-step c.args.set.now vs c.args.weights.now.vertex c.loop-v.costs c.push.new.self c.loop-v.v c.classes.result.now c.vertex.result
    (omega (arith, c.loop-v.auto.v-end, c.loop-v-test.true, length-vertices c.args.network.now.segments, c.segments-vertices.ensures.value)) c.classes.ensures c.vertex.ensures
    (rw c.in_ok-push.ensures.pushed (rw c.avoided_cost.ensures refl)) c.loop-v.invariant

-- each vertex has its cost
pub returns : goal.returns
returns c =
    let vs = vertices_of c.args.network.now in
    let all = c.args.weights.now.vertex in
    let whole = avoided_costs c.args.set.now vs all in
    let twice = length-vertices c.args.network.now.segments in
    let size : length whole ≡ length vs = length-avoided_costs c.args.set.now vs all (omega (arith, c.requires, twice)) in
    c.loop-v.invariant ∙ take_all c.loop-v.v whole (omega (arith, size, twice, c.segments-vertices.ensures.value, c.loop-v-test.false, c.loop-v.auto.v-end))
