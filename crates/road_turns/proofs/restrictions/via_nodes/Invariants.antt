use Rattle.std.proofs.Common.{◌≡◌, ℤ, drop}
use Rattle.std.specs.HashSet.{contains}
use Rattle.std.specs.Ordering.{int_eq}
use Rattle.road_turns.specs.RestrictionParts.{has_via}
use Rattle.road_turns.proofs.restrictions.via_nodes.Given as goal

-- the nodes of the rules from number i on are in the set
abbrev pub invariant-loop-i : goal.invariant-loop-i
invariant-loop-i l = (node : ℤ) → contains int_eq l.nodes node ≡ has_via (drop l.i l.rules.kept) node
