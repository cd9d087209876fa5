use Rattle.std.proofs.Common.{arith}
use Rattle.road_segments.specs.Located.{spot_in}
use Rattle.road_segments.specs.Rows.{segments_in}
use Rattle.road_segments.proofs.RouteLemmas.{rows-step}
use Rattle.road_segments.proofs.roads.rows_of.Goals as goal

pub loop-street-preserved : goal.loop-street-preserved
loop-street-preserved c = record {
  rest = rows-step (spot_in c.args.spots.now) c.args.objects.now c.args.routes.now.streets.items c.args.routes.now.places.items c.deref-place-items.result.now c.nodes_of.result.now c.loop-street.street
      (segments_in c.args.routes.now.streets.items c.loop-street.rows.items) (segments_in c.args.routes.now.streets.items c.push_along.new.rows.items) _
      c.requires.as_many c.deref-place-items.ensures.value c.loop-street-test.true c.nodes_of.ensures (c.in_ok-push_along.ensures.segments c.args.routes.now.streets.items) c.loop-street.invariant.rest;
  in_range = c.in_ok-push_along.ensures.in_range _ (omega (arith, c.requires.as_many, c.deref-place-items.ensures.len)) c.loop-street.invariant.in_range;
}
