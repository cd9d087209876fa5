use Rattle.std.proofs.Common.{◌≤◌, length, arith, ap}
use Rattle.road_segments.specs.Limits.{most_segments}
use Rattle.road_segments.specs.Located.{spot_in}
use Rattle.road_segments.proofs.RouteLemmas.{few-step, segments_on-end}
use Rattle.road_segments.proofs.routes.segment_count.Goals as goal

pub returns-then-count-gt-MOST_SEGMENTS : goal.returns-then-count-gt-MOST_SEGMENTS
unfolding most_segments
returns-then-count-gt-MOST_SEGMENTS c =
    let more = few-step (spot_in c.args.spots.now) c.args.objects.now c.args.routes.now.streets.items c.args.routes.now.places.items c.deref-place-items.result.now c.nodes_of.result.now c.loop-place.place-index
    c.loop-place.count c.count_along-count.result _ c.requires.as_many c.deref-place-items.ensures.value c.loop-place-test.true c.nodes_of.ensures c.count_along-count.ensures.value c.loop-place.invariant.rest in
    omega (arith, more)

pub loop-place-preserved : goal.loop-place-preserved
unfolding most_segments
loop-place-preserved c = record {
  rest = few-step (spot_in c.args.spots.now) c.args.objects.now c.args.routes.now.streets.items c.args.routes.now.places.items c.deref-place-items.result.now c.nodes_of.result.now c.loop-place.place-index
      c.loop-place.count c.count_along-count.result _ c.requires.as_many c.deref-place-items.ensures.value c.loop-place-test.true c.nodes_of.ensures c.count_along-count.ensures.value c.loop-place.invariant.rest;
  few = omega arith;
}

pub returns : goal.returns
returns c =
    let streets = c.args.routes.now.streets.items in
    let places = c.args.routes.now.places.items in
    let end : length places ≤ c.loop-place.place-index = omega (arith, c.deref-place-items.ensures.len) in
    let none = ap length (segments_on-end (spot_in c.args.spots.now) c.args.objects.now streets places c.loop-place.place-index c.requires.as_many end) in
    (omega (arith, none, c.loop-place.invariant.rest), omega (arith, none, c.loop-place.invariant.rest, c.loop-place.invariant.few))
