use Rattle.std.proofs.Common.{◌≡◌, ◌++◌, take}
use Rattle.road_walks.specs.Searched.{all_at_copies}
use Rattle.road_walks.proofs.copies.add_copies.Given as goal

-- those of each target so far are there
abbrev pub invariant-loop-number : goal.invariant-loop-number
invariant-loop-number l = l.targets.items ≡ l.fn.targets.items ++ all_at_copies l.network (take l.number l.fn.targets.items)
