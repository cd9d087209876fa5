use Rattle.std.proofs.Common.{◌≡◌, ◌≤◌, length, arith, rules, sym, ◌∙◌}
use Rattle.std.specs.Ordering.{int_cmp}
use Rattle.road_segments.specs.Laws.{length-vertices}
use Rattle.road_segments.specs.Vertex.{vertices}
use Rattle.road_turns.proofs.DepartureLemmas.{tail_cmp-none, tail_cmp-vertex}
use Rattle.road_turns.proofs.departures.tail_cmp.Goals as goal

pub returns-then-v-len : goal.returns-then-v-len
returns-then-v-len c =
    let says : c.cmp.result ≡ int_cmp c.tail.result c.args.node = search rules in
    says ∙ sym (tail_cmp-vertex (vertices c.args.roads.now) c.args.node c.args.v c.tail.result c.tail.ensures)

pub returns-else-v-len : goal.returns-else-v-len
returns-else-v-len c =
    let past : length (vertices c.args.roads.now) ≤ c.args.v = omega (arith, length-vertices c.args.roads.now, c.len.ensures.value) in
    sym (tail_cmp-none (vertices c.args.roads.now) c.args.node c.args.v past)
