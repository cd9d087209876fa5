use Rattle.std.proofs.Common.{◌≡◌, drop}
use Rattle.std.specs.HashSet.{contains}
use Rattle.std.specs.List.{list_all}
use Rattle.road_turns.specs.RestrictionParts.{pair_eq}
use Rattle.road_turns.proofs.restrictions.all_meet.Given as goal

-- the ways so far meet the node
abbrev pub invariant-loop-way : goal.invariant-loop-way
invariant-loop-way l = list_all (λ way. contains pair_eq l.met (l.node, way)) (drop l.way-index l.ways) ≡ list_all (λ way. contains pair_eq l.met (l.node, way)) l.ways
