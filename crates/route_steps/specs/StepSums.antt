-- What holds of the steps of a walk as a whole: they are the walk, cut.
use Rattle.std.specs.Prelude.{◌≡◌, ℕ, ◌-◌, List, length, map, take}
use Rattle.road_base.specs.declared.segments.Place.{Place}
use Rattle.search_graph.specs.declared.costs.WeightDurLen.{WeightDurLen}
use Rattle.road_places.specs.Paid.{total_of}
use Rattle.road_places.specs.Permitted.{IsPermitted}
use Rattle.metric_make.specs.RoadMetric.{RoadMetric}
use Rattle.route_steps.specs.Points.{points_along}
use Rattle.route_steps.specs.Steps.{joined}
use Rattle.route_steps.specs.declared.step_lists.Step.{Step}

-- what the steps cost comes to what the walk costs
abbrev pub AddUp : RoadMetric → Place → Place → List ℕ → List Step → Type 0
AddUp road p q walk steps = (d : WeightDurLen) → IsPermitted road p q walk d → total_of (map (λ step. step.cost) steps) ≡ d

-- the lines of the steps before the arrival, joined, are the walk's line
abbrev pub IsLineCut : RoadMetric → Place → Place → List ℕ → List Step → Type 0
IsLineCut road p q walk steps = joined (map (λ step. step.points) (take (length steps - 1) steps)) ≡ points_along road.network.segments p q walk
