use Rattle.std.proofs.Common.{ap, arith, ◌∙◌}
use Rattle.road_base.specs.declared.coordinates.Point.{Point}
use Rattle.json_text.specs.Drafts.{with_value}
use Rattle.step_texts.specs.Lines.{point_value}
use Rattle.json_text.specs.Items.{all_written, may_come, may_end, one_more}
use Rattle.step_texts.proofs.lines.push_points.Goals as goal

pub degrees-requires : goal.degrees-requires
degrees-requires c = may_come point_value c.args.points.now c.args.json.now c.loop-point.point-index c.loop-point.json c.loop-point.invariant

-- one more
pub loop-point-preserved : goal.loop-point-preserved
loop-point-preserved c =
    one_more point_value c.args.points.now c.args.json.now c.loop-point.point-index c.point-item.result c.loop-point.json _ (omega arith) c.loop-point.invariant (c.in_ok-degrees.ensures.ok ∙ ap (λ (point : Point). with_value (point_value point) c.loop-point.json) c.point-item.is)

pub end_list-requires : goal.end_list-requires
end_list-requires c = may_end point_value c.args.points.now c.args.json.now c.loop-point.point-index c.loop-point.json c.loop-point.invariant

-- all of them
pub returns : goal.returns
returns c =
    all_written point_value c.args.points.now c.args.json.now c.loop-point.point-index c.loop-point.json _ (omega arith) c.loop-point.invariant c.in_ok-end_list.ensures.ok
