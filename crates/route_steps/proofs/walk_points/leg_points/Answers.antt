use Rattle.std.proofs.Common.{◌*◌, ◌-◌, ◌<◌, length, take, ◌∙◌}
use Rattle.std.specs.List.{filter_map}
use Rattle.std.proofs.lemmas.List.Elements.{All-take}
use Rattle.metric_make.specs.RoadMetric.{RoadMetric}
use Rattle.route_steps.specs.Points.{end_of, point_on}
use Rattle.route_steps.proofs.PointLemmas.{point_on-told, points-pushed}
use Rattle.route_steps.specs.WalkLaws.{vertices_of-walk}
use Rattle.route_steps.proofs.walk_points.leg_points.Goals as goal

-- the vertices but the last are of the network
pub push_ends-requires : goal.push_ends-requires
push_ends-requires c =
    let network = c.args.network.now in
    let n = 2 * length network.segments in
    let road : RoadMetric = record { network = network; weights = c.requires.walk.0 } in
    let range = c.graph-turns.ensures.sound.in_range in
    let all = vertices_of-walk road c.args.from c.args.to c.requires.from c.requires.to c.args.walk.now c.requires.walk.1 range c.requires.walk.2 in
    All-take (λ v. v < n) (length c.args.walk.now - 1) c.args.walk.now (λ k d h. (all k d h).0)

-- the first place's point, the ends and the last place's
pub returns : goal.returns
returns c =
    let segments = c.args.network.now.segments in
    c.of.ensures
    ∙ points-pushed (point_on segments c.args.from) (point_on segments c.args.to) c.point.result c.point-2.result (filter_map (end_of segments) (take (length c.args.walk.now - 1) c.args.walk.now))
    c.in_ok-points.points.items c.push.new.self.items c.push_ends.new.points.items c.push-2.new.self.items
    (point_on-told segments c.args.from c.point.result c.point.ensures) (point_on-told segments c.args.to c.point-2.result c.point-2.ensures)
    c.in_ok-points.ensures.items c.in_ok-push.ensures.items c.in_ok-push_ends.ensures c.in_ok-push-2.ensures.items
