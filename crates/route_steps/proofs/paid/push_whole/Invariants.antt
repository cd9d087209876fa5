use Rattle.std.proofs.Common.{◌≡◌, ◌++◌, map, take}
use Rattle.road_places.specs.Paid.{cost_on}
use Rattle.route_steps.proofs.paid.push_whole.Given as goal

-- what the vertices so far cost is added
abbrev pub invariant-loop-v : goal.invariant-loop-v
invariant-loop-v l = l.paid.items ≡ l.fn.paid.items ++ map (cost_on l.base.weights) (take l.v-index l.vertices)
