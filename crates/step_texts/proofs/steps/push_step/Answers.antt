use Rattle.std.proofs.Common.{[], ◌∷◌, ◌++◌, codes, map}
use Rattle.json_text.specs.Values.{text}
use Rattle.json_text.specs.Wholes.{array_of}
use Rattle.json_text.specs.WholeLaws.{object_written}
use Rattle.step_texts.specs.Intersections.{intersection_value}
use Rattle.step_texts.specs.Lines.{line_value}
use Rattle.step_texts.specs.Steps.{maneuver_value, side_text, step_value}
use Rattle.step_texts.specs.Totals.{leg_totals, totals_members}
use Rattle.step_texts.proofs.steps.push_step.Goals as goal

pub returns : goal.returns
unfolding step_value
returns c =
    let step = c.args.step.now in
    rw (c.in_ok-end_object.ensures.ok, c.in_ok-push_intersections.ensures, c.as_slice-2.ensures, c.in_ok-key-2.ensures.ok, c.in_ok-push_maneuver.ensures, c.in_ok-key.ensures.ok, c.in_ok-text_member-3.ensures.ok, c.text.ensures, c.in_ok-text_member-2.ensures.ok, c.in_ok-text_member.ensures.ok, c.as_str.ensures, c.in_ok-push_geometry.ensures.ok, c.as_slice.ensures, c.in_ok-push_totals.ensures.ok, c.leg_totals.ensures, c.in_ok-begin_object.ensures.ok)
    (object_written (totals_members (leg_totals step.cost) ++ (codes "geometry", line_value c.args.form step.points) ∷ (codes "name", text step.name) ∷ (codes "mode", text (codes "driving")) ∷ (codes "driving_side", text (side_text c.args.side)) ∷ (codes "maneuver", maneuver_value step.maneuver) ∷ (codes "intersections", array_of (map intersection_value step.intersections)) ∷ []) c.args.json.now)
