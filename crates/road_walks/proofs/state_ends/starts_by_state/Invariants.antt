use Rattle.std.proofs.Common.{take}
use Rattle.std.specs.List.{AllZip}
use Rattle.road_walks.specs.Between.{states_of}
use Rattle.road_walks.specs.BetweenParts.{AreStartsAt}
use Rattle.road_walks.proofs.state_ends.starts_by_state.Given as goal

-- each state so far has its list
abbrev pub invariant-loop-number : goal.invariant-loop-number
invariant-loop-number l = AllZip (AreStartsAt l.under.frame.graph.vertices l.under.road l.from) (take l.number (states_of l.under.road.network l.from)) l.lists.items
