use Rattle.std.proofs.Common.{◌≤◌, length, arith, ap}
use Rattle.road_segments.specs.Limits.{most_segments}
use Rattle.road_segments.proofs.RouteLemmas.{room-step, segments_on-end}
use Rattle.road_segments.proofs.routes.room_by_nodes.Goals as goal

pub loop-place-preserved : goal.loop-place-preserved
unfolding most_segments
loop-place-preserved c = record {
  rest = λ spot. omega (
    arith,
    room-step spot c.args.objects.now c.args.routes.now.streets.items c.args.routes.now.places.items c.deref-place-items.result.now c.nodes_of.result.now c.loop-place.place-index
        c.loop-place.room _ c.requires.as_many c.deref-place-items.ensures.value c.loop-place-test.true c.nodes_of.ensures (c.loop-place.invariant.rest spot),
  );
  few = omega arith;
}

pub returns-clause-enough : goal.returns-clause-enough
returns-clause-enough c = λ spot.
    let streets = c.args.routes.now.streets.items in
    let places = c.args.routes.now.places.items in
    let end : length places ≤ c.loop-place.place-index = omega (arith, c.deref-place-items.ensures.len) in
    omega (arith, ap length (segments_on-end spot c.args.objects.now streets places c.loop-place.place-index c.requires.as_many end), c.loop-place.invariant.rest spot)
