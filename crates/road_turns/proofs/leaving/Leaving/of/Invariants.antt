use Rattle.std.proofs.Common.{◌≡◌, ℤ, ◌++◌, List, true, map}
use Rattle.turn_rules.specs.Rules.{Rule}
use Rattle.road_turns.specs.Fans.{AreRestricted, leavers}
use Rattle.road_turns.specs.Leaving.{AreGroups, leaving_at}
use Rattle.road_turns.specs.RestrictionParts.{has_via}
use Rattle.road_segments.specs.Vertex.{vertices}
use Rattle.road_turns.proofs.leaving.Leaving.of.Given as goal

-- the vertices from number v on are still to be added
abbrev pub invariant-loop-v : goal.invariant-loop-v
invariant-loop-v l = record {
  by_way : AreGroups l.leaving.runs l.leaving.groups;
  exits : (rules : List Rule) → AreRestricted (vertices l.roads) rules l.fans.restricted.items l.fans.nodes.items → (node : ℤ) → has_via rules node ≡ true
      → leaving_at l.leaving.runs node ++ map (λ e. (e.0, e.1.way)) (leavers (vertices l.roads) node l.v) ≡ map (λ e. (e.0, e.1.way)) (leavers (vertices l.roads) node 0);
}
