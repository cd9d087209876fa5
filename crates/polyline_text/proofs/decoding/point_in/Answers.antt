use Rattle.std.proofs.Common.{rules}
use Rattle.std.proofs.lemmas.List.{take_rest}
use Rattle.polyline_text.proofs.Reading.{point_of}
use Rattle.polyline_text.proofs.decoding.point_in.Goals as goal

pub returns-in-Ok-clause-value : goal.returns-in-Ok-clause-value
returns-in-Ok-clause-value c =
    point_of c.args.digits c.args.lon c.args.lat _ _ c.args.bytes.now _ _
    (search rules) (rw (← take_rest c.args.bytes.now c.in_ok-next_lat.before) (search (rules, c.in-Ok.ensures.value)))
