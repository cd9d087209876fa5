use Rattle.std.proofs.Common.{◌≡◌, filter, take}
use Rattle.turn_rules.specs.Rules.{is_among}
use Rattle.road_turns.proofs.decisions.common_ways.Given as goal

-- those of the ways so far
abbrev pub invariant-loop-way : goal.invariant-loop-way
invariant-loop-way l = l.common.items ≡ filter (is_among l.others) (take l.way-index l.ways)
