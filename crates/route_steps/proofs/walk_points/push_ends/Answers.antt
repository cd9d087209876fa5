use Rattle.std.proofs.lemmas.Option.{slice_get-get_or}
use Rattle.route_steps.specs.Points.{end_of}
use Rattle.route_steps.proofs.ListLemmas.{filter_map-push}
use Rattle.route_steps.proofs.walk_points.push_ends.Goals as goal

-- one end more
pub loop-v-preserved : goal.loop-v-preserved
loop-v-preserved c =
    filter_map-push (end_of c.args.network.now.segments) c.args.points.now.items c.args.vertices.now c.loop-v.v-index _ c.end_of.result c.loop-v.points.items c.push.new.self.items
    (slice_get-get_or c.args.vertices.now c.loop-v.v-index 0 c.loop-v-test.true) c.end_of.ensures c.loop-v.invariant c.in_ok-push.ensures.items
