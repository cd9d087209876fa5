use Rattle.std.proofs.Common.{◌≡◌}
use Rattle.std.specs.List.{zip}
use Rattle.reply_texts.specs.Waypoints.{waypoint_of}
use Rattle.json_text.specs.Items.{so_far}
use Rattle.reply_texts.proofs.waypoints.push_waypoints.Given as goal

-- what is written so far
abbrev pub invariant-loop-number : goal.invariant-loop-number
invariant-loop-number l = l.json ≡ so_far (waypoint_of l.network.segments) (zip l.coordinates l.places) l.fn.json l.number
