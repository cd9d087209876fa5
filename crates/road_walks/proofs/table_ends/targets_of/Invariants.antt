use Rattle.std.proofs.Common.{take}
use Rattle.std.specs.List.{AllZip}
use Rattle.road_walks.specs.TableParts.{AreTargetsTo}
use Rattle.road_walks.proofs.table_ends.targets_of.Given as goal

-- each of the destinations so far has its list
abbrev pub invariant-loop-destination : goal.invariant-loop-destination
invariant-loop-destination l = AllZip (AreTargetsTo l.under.frame.graph.vertices l.under.road) (take l.destination-index l.destinations) l.lists.items
