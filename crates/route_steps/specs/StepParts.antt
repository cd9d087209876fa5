-- For private functions: what holds of the lists from which steps are made.
use Rattle.std.specs.Prelude.{◌≡◌, ℕ, ◌+◌, ◌^◌, List, length}
use Rattle.road_base.specs.declared.coordinates.Point.{Point}
use Rattle.search_graph.specs.declared.costs.WeightDurLen.{WeightDurLen}
use Rattle.search_graph.specs.RoadCosts.{road_cost_ops}
use Rattle.road_places.specs.Paid.{total_of}

-- the points of a walk of n vertices, and what it pays at these and at its turns, which is not too much to be added up
pub record IsCourse (n : ℕ) (points : List Point) (paid turns : List WeightDurLen) : Type 0 where
  pub points_count : length points ≡ n + 1
  pub paid_count : length paid ≡ n
  pub turns_count : length turns + 1 ≡ n
  pub small : road_cost_ops.units (road_cost_ops.plus (total_of paid) (total_of turns)) (2 ^ 30)
