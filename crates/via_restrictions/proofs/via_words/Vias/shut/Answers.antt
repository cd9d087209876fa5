use Rattle.std.proofs.Common.{filter, take}
use Rattle.std.proofs.lemmas.List.Elements.{All-filter, All-same, All-take}
use Rattle.via_restrictions.specs.ViaWays.{is_onto, is_shut}
use Rattle.road_segments.specs.Vertex.{vertices}
use Rattle.via_restrictions.proofs.ViaLemmas.{IsVertex}
use Rattle.via_restrictions.proofs.via_words.Vias.shut.Goals as goal

pub returns-clause-below : goal.returns-clause-below
returns-clause-below c =
    let segments = c.args.self.now.turning.roads.now in
    let test = is_onto (vertices segments) (is_shut c.args.self.now.rules.now c.args.number) in
    let front = take c.loop-e.e-index c.args.exits.now in
    All-same (IsVertex segments) c.loop-e.ends.items (filter test front) c.loop-e.invariant
    (All-filter test (IsVertex segments) front (All-take (IsVertex segments) c.loop-e.e-index c.args.exits.now c.requires.exits))
