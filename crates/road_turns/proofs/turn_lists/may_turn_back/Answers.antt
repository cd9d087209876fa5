use Rattle.std.proofs.Common.{true, sym, ◌∙◌}
use Rattle.road_segments.specs.Vertex.{vertices}
use Rattle.road_turns.specs.VertexLaws.{both-ways}
use Rattle.road_turns.proofs.TurnLemmas.{may_turn_back-at, opens_back-at}
use Rattle.road_turns.proofs.turn_lists.may_turn_back.Goals as goal

pub returns : goal.returns
returns c =
    let vs = vertices c.args.roads.now in
    let kept = c.args.restrictions.now.kept in
    let w = both-ways c.args.roads.now c.args.v c.requires in
    c.opens_back.ensures ∙ opens_back-at vs c.args.v w.0 w.2 w.1 w.3 kept true ∙ sym (may_turn_back-at vs c.args.v w.0 w.2 w.1 w.3 kept)
