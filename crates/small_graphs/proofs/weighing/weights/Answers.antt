-- Each cost is within one unit, and there are as many as the graph asks for.
use Rattle.std.proofs.Common.{◌^◌, ◌≤◌, arith}
use Rattle.search_graph.specs.RoadCosts.{road_cost_ops}
use Rattle.search_graph.specs.WeightLaws.{small_from_lists}
use Rattle.small_graphs.proofs.weighing.weights.Goals as goal

pub small_weights-requires : goal.small_weights-requires
small_weights-requires c =
    let few : c.args.graph.now.vertices ≤ 2 ^ 27 = omega (arith, c.in_ok-check_fitting.ensures.few) in
    small_from_lists road_cost_ops c.args.graph.now c.in_ok-vertex.vertex c.in_ok-arc.arc few c.in_ok-check_fitting.ensures.vertices c.in_ok-check_fitting.ensures.arcs c.in_ok-vertex.ensures c.in_ok-arc.ensures
