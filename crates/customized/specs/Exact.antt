-- A metric of roads, as those see it who publish it and answer under it.
use Rattle.std.specs.Prelude.{◌≡◌, ℕ, ◌-◌, ◌^◌, List, Option, length, min, sum}
use Rattle.std.specs.List.{AllZip}
use Rattle.std.proofs.Common.{◌∙◌, sym}
use Rattle.search_graph.specs.declared.costs.WeightDurLen.{WeightDurLen}
use Rattle.search_graph.specs.Digraph.{Weighting}
use Rattle.search_graph.specs.RoadCosts.{road_cost_ops}
use Rattle.search_graph.specs.Weighted.{AreSmall}
use Rattle.edge_graph.specs.NetworkView.{graph_of}
use Rattle.metric_make.specs.Avoiding.{avoided, avoiding}
use Rattle.metric_make.specs.MetricOf.{AreAlike, MetricView}
use Rattle.metric_make.specs.RoadMetric.{RoadMetric, road_of}
use Rattle.cell_frame.specs.Borders.{Framed}
use Rattle.cell_frame.specs.Cliqued.{AreExact, CliqueLists}
use Rattle.cell_recustomize.specs.Changes.{AreChanges}
use Rattle.cell_recustomize.specs.Touched.{IsTouchedCount}
use Rattle.cell_recustomize.specs.declared.places.Changed.{Changed}
use Rattle.customized.specs.Excluding.{exclusions, weights_under}
use Rattle.customized.specs.Framing.{RoadsView}

-- A network with its costs, and the frame of its graph.
pub record Customized : Type 0 where
  pub road : RoadMetric
  pub frame : Framed

-- roads under these costs
abbrev pub customized_on : RoadsView → MetricView → Customized
customized_on roads base = record { road = road_of roads.network base; frame = roads.frame }

-- The frame is over the network's graph, the costs are small and alike for all that stands for one vertex or turn, and in all levels the cliques are the least costs inside the
-- cells under just these costs.
pub record IsExact (m : Customized) (cliques : CliqueLists WeightDurLen) : Type 0 where
  pub graph : m.frame.graph ≡ graph_of m.road.network
  pub small : AreSmall road_cost_ops (graph_of m.road.network) m.road.weights
  pub alike : AreAlike m.road.network m.road.weights
  pub exact : AreExact road_cost_ops m.frame m.road.weights cliques (length m.frame.cells.levels)

-- the two are of one network and one frame
abbrev pub ShareRoads : Customized → Customized → Type 0
ShareRoads x y = (x.road.network ≡ y.road.network) × (x.frame ≡ y.frame)

-- the roads of a metric
abbrev pub roads_of : Customized → RoadsView
roads_of m = record { network = m.road.network; frame = m.frame }

-- what shares its roads with one shares them with one another
pub share_both : (x y z : Customized) → ShareRoads x y → ShareRoads x z → ShareRoads y z
share_both x y z a b = (sym a.0 ∙ b.0, sym a.1 ∙ b.1)

-- a metric as those see it who avoid a set, or none
abbrev pub excluding : Option ℕ → Customized → Customized
excluding set m = record { road = avoiding set m.road; frame = m.frame }

-- The weights are those of the metric under each exclusion, and for each of them the cliques are exact for just these.
pub record IsExactForEach (m : Customized) (bases : List (Weighting WeightDurLen)) (sets : List (CliqueLists WeightDurLen)) : Type 0 where
  pub weights : bases ≡ weights_under m.road.network m.road.weights
  pub exact : AllZip (λ set cliques. IsExact (excluding set m) cliques) (exclusions m.road.network) sets

-- the places where two weightings differ
pub record AreChangesBetween (both : Weighting WeightDurLen × Weighting WeightDurLen) (changed : Changed) : Type 0 where
  pub vertices : AreChanges both.0.vertex both.1.vertex changed.vertices
  pub arcs : AreChanges both.0.arc both.1.arc changed.arcs

-- Of the cells of a frame those that hold a vertex that costs other than before, or both ends of a turn that does, have n
-- entries in all.
pub record IsTouchedBy (frame : Framed) (before after : Weighting WeightDurLen) (n : ℕ) : Type 0 where
  pub changed : Changed
  pub differ : AreChangesBetween (before, after) changed
  pub touched : IsTouchedCount frame changed.vertices changed.arcs n

-- Of the cells that these costs touch without exclusion, and for each set where just those who avoid it pay other than
-- before, there are n entries in all; the count stands still at the end of 64 bits.
pub record IsRemadeBy (m : Customized) (after : Weighting WeightDurLen) (n : ℕ) : Type 0 where
  pub counts : List ℕ
  pub each : AllZip (λ set count. IsTouchedBy m.frame (avoided m.road.network set m.road.weights) (avoided m.road.network set after) count) (exclusions m.road.network) counts
  pub all : n ≡ min (sum counts) (2 ^ 64 - 1)
