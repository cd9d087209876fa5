use Rattle.std.proofs.Common.{◌≡◌, ◌-◌, ◌≤◌, map}
use Rattle.std.specs.List.{range_with_len}
use Rattle.route_steps.specs.Intersections.{intersection_at}
use Rattle.route_steps.proofs.intersections.intersections_between.Given as goal

-- the intersections before this place are listed
abbrev pub invariant-loop-place : goal.invariant-loop-place
invariant-loop-place l =
    (l.begin ≤ l.place)
    × (l.place ≤ l.end)
    × (l.all.items ≡ map (intersection_at l.network l.walk l.points) (range_with_len l.begin (l.place - l.begin)))
