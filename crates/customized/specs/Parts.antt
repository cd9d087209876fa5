-- For private functions: what holds of the parts of `Roads`.
use Rattle.std.specs.Prelude.{◌≡◌, ℕ, List}
use Rattle.cell_frame.specs.Borders.{Framed}
use Rattle.edge_graph.specs.NetworkView.{NetworkView, graph_of}
use Rattle.head_index.specs.ByHead.{AreByHead}
use Rattle.metric_make.specs.MetricOf.{IsMetricOn, MetricView, base_of}

-- the frame is over the graph of the network, the heads are those of its arcs, and the base is the metric of the network by
-- the profile alone, which is a metric on it
pub record AreRoads (network : NetworkView) (frame : Framed) (heads : List (List ℕ)) (base : MetricView) : Type 0 where
  pub graph : frame.graph ≡ graph_of network
  pub heads_are : AreByHead (graph_of network) heads
  pub base_is : base ≡ base_of network
  pub on : IsMetricOn network (base_of network).weights
