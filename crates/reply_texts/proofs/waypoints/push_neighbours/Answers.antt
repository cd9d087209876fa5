use Rattle.std.proofs.Common.{arith}
use Rattle.reply_texts.specs.Waypoints.{neighbour_of}
use Rattle.json_text.specs.Items.{all_written, may_come, may_end, one_more}
use Rattle.reply_texts.proofs.waypoints.push_neighbours.Goals as goal

pub push_neighbour-requires-clause-takes : goal.push_neighbour-requires-clause-takes
push_neighbour-requires-clause-takes c = may_come (neighbour_of c.args.network.now.segments c.args.coordinate) c.args.places.now c.args.json.now c.loop-place.place-index c.loop-place.json c.loop-place.invariant

-- one more
pub loop-place-preserved : goal.loop-place-preserved
loop-place-preserved c =
    one_more (neighbour_of c.args.network.now.segments c.args.coordinate) c.args.places.now c.args.json.now c.loop-place.place-index _ c.loop-place.json _ (omega arith) c.loop-place.invariant (c.in_ok-push_neighbour.ensures)

pub end_list-requires : goal.end_list-requires
end_list-requires c = may_end (neighbour_of c.args.network.now.segments c.args.coordinate) c.args.places.now c.args.json.now c.loop-place.place-index c.loop-place.json c.loop-place.invariant

-- all of them
pub returns : goal.returns
returns c =
    all_written (neighbour_of c.args.network.now.segments c.args.coordinate) c.args.places.now c.args.json.now c.loop-place.place-index c.loop-place.json _ (omega arith) c.loop-place.invariant c.in_ok-end_list.ensures.ok
