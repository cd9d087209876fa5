-- Small weights are a weighting.
use Rattle.search_graph.specs.RoadCosts.{road_cost_laws}
use Rattle.search_graph.specs.WeightLaws.{small_is_weighting}
use Rattle.town_drill.proofs.plain_tests.least_cost.Goals as goal

pub least_from-requires-clause-weights : goal.least_from-requires-clause-weights
least_from-requires-clause-weights g c = small_is_weighting road_cost_laws c.args.graph.now c.args.weights.now c.requires
