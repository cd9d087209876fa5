use Rattle.std.proofs.Common.{◌≡◌, ◌==◌, map, take}
use Rattle.std.specs.List.{list_any}
use Rattle.route_steps.specs.declared.ways.Way.{Way}
use Rattle.route_steps.proofs.ways.entries_of.Given as goal

-- of the ways so far it is told whether they are there
abbrev pub invariant-loop-way : goal.invariant-loop-way
invariant-loop-way l = l.entries.items ≡ map (λ (way : Way). list_any (λ u. u == way.vertex) l.followers) (take l.way-index l.ways)
