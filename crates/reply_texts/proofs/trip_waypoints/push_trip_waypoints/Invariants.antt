use Rattle.std.proofs.Common.{◌≡◌}
use Rattle.std.specs.List.{enumerate_from, zip}
use Rattle.json_text.specs.Items.{so_far}
use Rattle.reply_texts.specs.Waypoints.{trip_waypoint_of}
use Rattle.reply_texts.proofs.trip_waypoints.push_trip_waypoints.Given as goal

-- what is written so far
abbrev pub invariant-loop-number : goal.invariant-loop-number
invariant-loop-number l = l.json ≡ so_far (trip_waypoint_of l.network.segments l.order) (enumerate_from 0 (zip l.coordinates l.places)) l.fn.json l.number
