-- A road network with what its vertices and turns cost.
use Rattle.search_graph.specs.declared.costs.WeightDurLen.{WeightDurLen}
use Rattle.search_graph.specs.Digraph.{Weighting}
use Rattle.edge_graph.specs.NetworkView.{NetworkView}
use Rattle.metric_make.specs.MetricOf.{MetricView}

pub record RoadMetric : Type 0 where
  pub network : NetworkView
  pub weights : Weighting WeightDurLen

-- a network under these weights
abbrev pub road_of : NetworkView → MetricView → RoadMetric
road_of network base = record { network = network; weights = base.weights }
