use Rattle.std.proofs.Common.{ap, sym, ◌∙◌, ◌++◌}
use Rattle.std.specs.List.{slice_get}
use Rattle.geo_integer.specs.Position.{position_of}
use Rattle.json_text.specs.declared.draft.Container.TheVariants as container
use Rattle.json_text.specs.Drafts.{begun, ended}
use Rattle.json_text.specs.WholeLaws.{object_written, with_members-append}
use Rattle.reply_texts.specs.Waypoints.{members_on, nodes_on, waypoint_value}
use Rattle.reply_texts.proofs.waypoints.push_neighbour.Goals as goal

pub returns : goal.returns
unfolding waypoint_value
returns c =
    let segment = slice_get c.args.network.now.segments c.args.place.segment in
    let place = members_on segment (position_of c.args.coordinate) c.args.place.at in
    rw (c.in_ok-end_object.ensures.ok, c.in_ok-push_place.ensures.ok, c.in_ok-push_nodes.ensures.ok, c.in_ok-begin_object.ensures.ok)
    (ap (ended container.Object) (sym (with_members-append (nodes_on segment) place (begun container.Object c.args.json.now)))
    ∙ object_written (nodes_on segment ++ place) c.args.json.now)
