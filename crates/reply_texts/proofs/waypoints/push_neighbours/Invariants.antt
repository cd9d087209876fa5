use Rattle.std.proofs.Common.{◌≡◌}
use Rattle.reply_texts.specs.Waypoints.{neighbour_of}
use Rattle.json_text.specs.Items.{so_far}
use Rattle.reply_texts.proofs.waypoints.push_neighbours.Given as goal

-- what is written so far
abbrev pub invariant-loop-place : goal.invariant-loop-place
invariant-loop-place l = l.json ≡ so_far (neighbour_of l.network.segments l.coordinate) l.places l.fn.json l.place-index
