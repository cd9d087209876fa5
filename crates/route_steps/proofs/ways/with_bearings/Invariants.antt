use Rattle.std.proofs.Common.{◌≡◌, ◌<◌, All, map, take}
use Rattle.route_steps.specs.Ways.{way_on}
use Rattle.route_steps.specs.declared.ways.Way.{Way}
use Rattle.route_steps.proofs.ways.with_bearings.Given as goal

-- the vertices so far are listed with their bearings
abbrev pub invariant-loop-vertex : goal.invariant-loop-vertex
invariant-loop-vertex l =
    (l.ways.items ≡ map (way_on l.network) (take l.vertex-index l.vertices)) × All (λ (way : Way). way.bearing < 360) l.ways.items
