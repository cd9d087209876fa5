use Rattle.std.proofs.Common.{◌≡◌, ◌++◌, take}
use Rattle.std.specs.List.{filter_map}
use Rattle.route_steps.specs.Points.{end_of}
use Rattle.route_steps.proofs.walk_points.push_ends.Given as goal

-- the ends of the vertices so far are added
abbrev pub invariant-loop-v : goal.invariant-loop-v
invariant-loop-v l = l.points.items ≡ l.fn.points.items ++ filter_map (end_of l.network.segments) (take l.v-index l.vertices)
