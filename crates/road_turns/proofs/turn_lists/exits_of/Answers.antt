use Rattle.std.proofs.Common.{arith, ap}
use Rattle.std.proofs.lemmas.Option.{slice_get_within}
use Rattle.road_segments.specs.Vertex.{opposite, vertices}
use Rattle.road_turns.specs.VertexLaws.{both-ways}
use Rattle.road_turns.proofs.FanLemmas.{count-ahead, node-within, ordered-ahead, other-within}
use Rattle.road_turns.proofs.TurnLemmas.{bit}
use Rattle.road_segments.specs.Laws.{length-vertices}
use Rattle.road_turns.proofs.turn_lists.exits_of.Goals as goal

pub index-requires : goal.index-requires
index-requires c =
    let segments = c.args.roads.now in
    let fans = c.args.fans.now in
    omega (arith, other-within segments fans.leaving.items fans.begins.items fans.restricted.items fans.nodes.items c.requires.fans c.args.v c.requires.vertex c.other_way.result c.other_way.ensures, fans.nodes.ok.0)

pub index-requires-2 : goal.index-requires-2
index-requires-2 c =
    let segments = c.args.roads.now in
    let fans = c.args.fans.now in
    omega (arith, node-within segments fans.leaving.items fans.begins.items fans.restricted.items fans.nodes.items c.requires.fans c.args.v c.requires.vertex c.other_way.result c.other_way.ensures c.index.result.now c.index.ensures, fans.begins.ok.0)

pub index-requires-3 : goal.index-requires-3
index-requires-3 c =
    let segments = c.args.roads.now in
    let fans = c.args.fans.now in
    omega (arith, node-within segments fans.leaving.items fans.begins.items fans.restricted.items fans.nodes.items c.requires.fans c.args.v c.requires.vertex c.other_way.result c.other_way.ensures c.index.result.now c.index.ensures, fans.begins.ok.0)

pub overflow_sub-leaving : goal.overflow_sub-leaving
overflow_sub-leaving c =
    let segments = c.args.roads.now in
    let fans = c.args.fans.now in
    ordered-ahead segments fans.leaving.items fans.begins.items fans.restricted.items fans.nodes.items c.requires.fans c.args.v c.requires.vertex c.other_way.result c.other_way.ensures c.index.result.now c.index.ensures c.index-3.result.now c.index-2.result.now c.index-3.ensures c.index-2.ensures

pub permitted-requires : goal.permitted-requires
permitted-requires c =
    let w = both-ways c.args.roads.now c.args.v c.requires.vertex in
    omega (arith, slice_get_within (vertices c.args.roads.now) (opposite c.args.v) w.1 w.3, length-vertices c.args.roads.now, c.other_way-2.ensures)

pub overflow_sub-result : goal.overflow_sub-result
overflow_sub-result c =
    let segments = c.args.roads.now in
    let fans = c.args.fans.now in
    let counted =
    count-ahead segments fans.leaving.items fans.begins.items fans.restricted.items fans.nodes.items c.requires.fans c.args.v c.requires.vertex c.other_way.result c.other_way.ensures c.index.result.now c.index.ensures c.index-3.result.now c.index-2.result.now c.index-3.ensures c.index-2.ensures c.other_way-2.result c.permitted.result c.other_way-2.ensures c.permitted.ensures in
    omega (arith, counted, ap bit c.if-permitted.true)

pub returns-then-permitted : goal.returns-then-permitted
returns-then-permitted c =
    let segments = c.args.roads.now in
    let fans = c.args.fans.now in
    let counted =
    count-ahead segments fans.leaving.items fans.begins.items fans.restricted.items fans.nodes.items c.requires.fans c.args.v c.requires.vertex c.other_way.result c.other_way.ensures c.index.result.now c.index.ensures c.index-3.result.now c.index-2.result.now c.index-3.ensures c.index-2.ensures c.other_way-2.result c.permitted.result c.other_way-2.ensures c.permitted.ensures in
    omega (arith, counted, ap bit c.if-permitted.true)

pub returns-else-permitted : goal.returns-else-permitted
returns-else-permitted c =
    let segments = c.args.roads.now in
    let fans = c.args.fans.now in
    let counted =
    count-ahead segments fans.leaving.items fans.begins.items fans.restricted.items fans.nodes.items c.requires.fans c.args.v c.requires.vertex c.other_way.result c.other_way.ensures c.index.result.now c.index.ensures c.index-3.result.now c.index-2.result.now c.index-3.ensures c.index-2.ensures c.other_way-2.result c.permitted.result c.other_way-2.ensures c.permitted.ensures in
    omega (arith, counted, ap bit c.if-permitted.false)
