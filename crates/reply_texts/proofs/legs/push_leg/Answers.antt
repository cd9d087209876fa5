use Rattle.std.proofs.Common.{[], ◌∷◌, ◌++◌, codes}
use Rattle.json_text.specs.Values.{text}
use Rattle.json_text.specs.WholeLaws.{object_written}
use Rattle.road_places.specs.Paid.{paid_along}
use Rattle.metric_make.specs.RoadMetric.{road_of}
use Rattle.route_steps.specs.Annotations.{nodes_along}
use Rattle.route_steps.specs.Steps.{steps_along}
use Rattle.reply_texts.specs.Legs.{annotation_value, is_annotated, leg_value}
use Rattle.reply_texts.specs.Optional.{member_if}
use Rattle.step_texts.specs.Steps.{driving_side, steps_value}
use Rattle.step_texts.specs.Totals.{leg_totals, totals_members}
use Rattle.reply_texts.proofs.legs.push_leg.Goals as goal

pub returns : goal.returns
unfolding leg_value
returns c =
    let telling = c.args.telling.now in
    let asked = telling.annotations in
    let walk = c.args.route.now.walk in
    let steps = steps_value telling.steps telling.geometries (driving_side c.args.network.now.profile) (steps_along (road_of c.args.network.now c.args.base.now) c.args.ends.0 c.args.ends.1 walk) in
    let annotation = annotation_value asked (paid_along c.args.base.now.weights c.args.ends.0 c.args.ends.1 walk) (nodes_along c.args.network.now.segments walk) in
    rw (c.in_ok-end_object.ensures.ok, c.in_ok-push_leg_annotation.ensures.ok, c.in_ok-push_leg_steps.ensures, c.in_ok-key.ensures.ok, c.in_ok-text_member.ensures.ok, c.in_ok-push_totals.ensures.ok, c.leg_totals.ensures, c.in_ok-begin_object.ensures.ok)
    (object_written (totals_members (leg_totals c.args.route.now.cost) ++ (codes "summary", text []) ∷ (codes "steps", steps) ∷ member_if (is_annotated asked) (codes "annotation") annotation) c.args.json.now)
