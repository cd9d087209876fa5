use Rattle.std.proofs.Common.{◌≡◌, ◌*◌, ◌++◌, All, Some, length, take}
use Rattle.std.specs.List.{flat_map, slice_get}
use Rattle.turn_rules.specs.Rules.{ViaRule}
use Rattle.via_restrictions.specs.ViaParts.{AddsReached, lists_in}
use Rattle.via_restrictions.specs.ViaWays.{ends_along, words_along}
use Rattle.via_paths.specs.Forbidden.{HasPath, IsBelow, words_in}
use Rattle.road_segments.specs.Vertex.{vertices}
use Rattle.via_restrictions.proofs.via_words.Vias.push_course.Given as goal

-- those along the paths so far are added
abbrev pub invariant-loop-i : goal.invariant-loop-i
invariant-loop-i l = record {
  words : (rule : ViaRule) → slice_get l.self.rules.now l.number ≡ Some rule → words_in l.groups.items
      ≡ words_in l.fn.groups.items ++ flat_map (words_along (vertices l.self.turning.roads.now) l.self.turning.restrictions.now.kept l.self.rules.now (l.number, rule)) (lists_in (take l.i l.paths.items));
  paths : All HasPath l.fn.groups.items → All HasPath l.groups.items;
  below : All (IsBelow (2 * length l.self.turning.roads.now)) l.fn.groups.items → All (IsBelow (2 * length l.self.turning.roads.now)) l.groups.items;
  reached : (rule : ViaRule) → slice_get l.self.rules.now l.number ≡ Some rule
      → AddsReached (vertices l.self.turning.roads.now) (flat_map (ends_along (vertices l.self.turning.roads.now) l.self.turning.restrictions.now.kept rule) (lists_in (take l.i l.paths.items))) l.number l.fn.reached.ways l.fn.reached.firsts l.reached.ways l.reached.firsts;
}
