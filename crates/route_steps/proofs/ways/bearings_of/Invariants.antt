use Rattle.std.proofs.Common.{◌≡◌, map, take}
use Rattle.route_steps.specs.declared.ways.Way.{Way}
use Rattle.route_steps.proofs.ways.bearings_of.Given as goal

-- the bearings of the ways so far are listed
abbrev pub invariant-loop-way : goal.invariant-loop-way
invariant-loop-way l = l.bearings.items ≡ map (λ (way : Way). way.bearing) (take l.way-index l.ways)
