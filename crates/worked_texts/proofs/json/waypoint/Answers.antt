use Rattle.std.proofs.Common.{codes, [], ◌∷◌}
use Rattle.json_text.specs.Values.{text, tenths, location}
use Rattle.json_text.specs.WholeLaws.{object_written}
use Rattle.worked_texts.proofs.json.waypoint.Goals as goal

pub returns : goal.returns
returns c =
    rw (c.in_ok-end_object.ensures.ok, c.in_ok-degrees.ensures.ok, c.in_ok-key-3.ensures.ok, c.in_ok-text.ensures.ok, c.in_ok-key-2.ensures.ok, c.in_ok-tenths.ensures.ok, c.in_ok-key.ensures.ok, c.in_ok-begin_object.ensures.ok)
    (object_written ((codes "distance", tenths c.args.distance) ∷ (codes "name", text c.args.name.now) ∷ (codes "location", location c.args.p.lon c.args.p.lat) ∷ []) c.args.json.now)
