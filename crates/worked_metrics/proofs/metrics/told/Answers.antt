-- The network's vertices and turns are the first ones of the searched graph.
use Rattle.std.proofs.Common.{arith}
use Rattle.edge_graph.specs.GraphLaws.{segments-in-graph, turns-in-graph}
use Rattle.worked_metrics.proofs.metrics.told.Goals as goal

pub vertex-cost-requires : goal.vertex-cost-requires
vertex-cost-requires c = omega (arith, c.requires.vertices, c.segments-v-end.ensures.value, segments-in-graph c.args.network.now)

pub turn-cost-requires : goal.turn-cost-requires
turn-cost-requires c = omega (arith, c.requires.arcs, c.turns-i-end.ensures.value, turns-in-graph c.args.network.now)
