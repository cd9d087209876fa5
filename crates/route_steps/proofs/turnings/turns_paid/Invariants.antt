use Rattle.std.proofs.Common.{◌≡◌, map, take}
use Rattle.road_places.specs.Paid.{steps_of}
use Rattle.metric_make.specs.RoadMetric.{road_of}
use Rattle.route_steps.specs.Turnings.{turn_paid}
use Rattle.route_steps.proofs.turnings.turns_paid.Given as goal

-- what the turns so far cost is listed
abbrev pub invariant-loop-k : goal.invariant-loop-k
invariant-loop-k l = l.turns.items ≡ map (turn_paid (road_of l.network l.base)) (take l.k (steps_of l.walk))
