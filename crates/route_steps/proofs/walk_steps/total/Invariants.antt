use Rattle.std.proofs.Common.{◌≡◌, take}
use Rattle.road_places.specs.Paid.{total_of}
use Rattle.route_steps.proofs.walk_steps.total.Given as goal

-- the costs so far are added up
abbrev pub invariant-loop-cost : goal.invariant-loop-cost
invariant-loop-cost l = l.sum ≡ total_of (take l.cost-index l.costs)
