use Rattle.std.proofs.Common.{◌≡◌, ◌≤◌, take}
use Rattle.std.specs.List.{count_by}
use Rattle.via_restrictions.specs.ViaWays.{forbids_some}
use Rattle.road_segments.specs.Vertex.{vertices}
use Rattle.via_restrictions.proofs.via_words.Vias.count.Given as goal

-- those of the restrictions so far are counted
abbrev pub invariant-loop-i : goal.invariant-loop-i
invariant-loop-i l = record {
  value : l.count ≡ count_by (forbids_some (vertices l.self.turning.roads.now) l.self.turning.restrictions.now.kept) (take l.i l.self.rules.now);
  few : l.count ≤ l.i;
}
