use Rattle.std.proofs.Common.{[], ◌∷◌, codes}
use Rattle.std.specs.Prelude.{map}
use Rattle.json_text.specs.Values.{text}
use Rattle.json_text.specs.Wholes.{array_of}
use Rattle.json_text.specs.WholeLaws.{object_written}
use Rattle.step_texts.specs.Lines.{geojson_value, point_value}
use Rattle.step_texts.proofs.lines.push_geojson.Goals as goal

pub returns : goal.returns
unfolding geojson_value
returns c =
    rw (c.in_ok-end_object.ensures.ok, c.in_ok-text_member.ensures.ok, c.in_ok-push_points.ensures, c.in_ok-key.ensures.ok, c.in_ok-begin_object.ensures.ok)
    (object_written ((codes "coordinates", array_of (map point_value c.args.points.now)) ∷ (codes "type", text (codes "LineString")) ∷ []) c.args.json.now)
