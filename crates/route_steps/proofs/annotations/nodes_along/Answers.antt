use Rattle.std.proofs.Common.{FitsSigned, rules, take, w64}
use Rattle.std.specs.List.{filter_map}
use Rattle.std.proofs.lemmas.Int.{to_z-of_z}
use Rattle.std.proofs.lemmas.Option.{slice_get-get_or}
use Rattle.route_steps.specs.Annotations.{head_of, tail_of}
use Rattle.route_steps.proofs.ListLemmas.{filter_map-push}
use Rattle.route_steps.proofs.annotations.nodes_along.Goals as goal

-- one node more
pub loop-v-preserved : goal.loop-v-preserved
loop-v-preserved c =
    let segments = c.args.network.now.segments in
    let walk = c.args.walk.now in
    let fits : FitsSigned w64 c.head.result = search rules in
    let items = simp to_z-of_z at c.in_ok-push-2.ensures.items in
    filter_map-push (head_of segments) (filter_map (tail_of segments) (take 1 walk)) walk c.loop-v.v-index _ c.head.result c.loop-v.nodes.items c.push-in-loop-v.new.self.items
    (slice_get-get_or walk c.loop-v.v-index 0 c.loop-v-test.true) c.head.ensures c.loop-v.invariant items
