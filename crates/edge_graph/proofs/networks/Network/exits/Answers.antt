use Rattle.std.proofs.Common.{◌≡◌, List, ◌<◌, length, arith, sym, ap, ◌∙◌}
use Rattle.list_lemmas.proofs.Gets.{get_is}
use Rattle.edge_graph.specs.NetworkView.{NetworkView}
use Rattle.road_segments.specs.Segment.{Segment}
use Rattle.road_turns.specs.Turn.{exits}
use Rattle.road_segments.specs.Vertex.{vertices}
use Rattle.road_segments.specs.Laws.{length-vertices}
use Rattle.edge_graph.proofs.networks.Network.exits.Goals as goal

pub index-requires : goal.index-requires
index-requires c =
    let same : c.self.inside.roads ≡ c.args.self.now.segments = ap (λ (n : NetworkView). n.segments) c.self.view_is in
    omega (arith, c.self.invariant.exits.as_many, length-vertices c.self.inside.roads, ap length same, c.requires)

pub returns : goal.returns
returns c =
    let same : c.self.inside.roads ≡ c.args.self.now.segments = ap (λ (n : NetworkView). n.segments) c.self.view_is in
    let lt : c.args.v < length c.self.inside.exits.items = omega (arith, c.self.invariant.exits.as_many, length-vertices c.self.inside.roads, ap length same, c.requires) in
    c.self.invariant.exits.each c.args.v c.index.result.now (get_is c.self.inside.exits.items c.args.v c.index.result.now lt (sym c.index.ensures))
    ∙ ap (λ (s : List Segment). exits (vertices s) c.args.v) same
