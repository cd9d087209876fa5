use Rattle.std.proofs.Common.{take}
use Rattle.road_segments.specs.Vertex.{vertices}
use Rattle.via_restrictions.specs.ViaParts.{AddsReached}
use Rattle.via_restrictions.proofs.via_words.Vias.reach.Given as goal

-- those of the vertices so far are added
abbrev pub invariant-loop-e : goal.invariant-loop-e
invariant-loop-e l =
    AddsReached (vertices l.self.turning.roads.now) (take l.e-index l.exits) l.number l.fn.reached.ways l.fn.reached.firsts l.reached.ways l.reached.firsts
