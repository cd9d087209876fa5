use Rattle.std.proofs.Common.{◌≡◌, ℕ, ◌<◌, List, Some, length, slice_index_or, refl, sym, subst, ◌∙◌, rules}
use Rattle.std.specs.List.{slice_get}
use Rattle.std.proofs.lemmas.Option.{same_Some, slice_get-get_or, slice_get_read, slice_get_within}
use Rattle.road_segments.specs.Located.{StandAt, spot_in}
use Rattle.road_segments.specs.Segment.{ways_by_id}
use Rattle.road_segments.proofs.RouteLemmas.{StandAt-get, may-be-used, step-add, step-skip}
use Rattle.road_segments.proofs.routes.routes_of.Goals.{in-Way+then-has_segments+in_ok-street+in_ok-push+in_ok-push-2, in-Way+else-has_segments, in_default}
use Rattle.road_segments.proofs.routes.routes_of.Goals as goal

pub bounds-objects-place : goal.bounds-objects-place
bounds-objects-place c =
    let objects = c.args.objects.now in
    let all = c.deref-place-items.result.now in
    let stand : StandAt objects all (ways_by_id objects) = subst (λ (x : List ℕ). StandAt objects x (ways_by_id objects)) (sym c.deref-place-items.ensures.value) c.in_ok-all.ensures in
    let at : slice_get all c.loop-place.place-index ≡ Some (slice_index_or all c.loop-place.place-index 0) = slice_get-get_or all c.loop-place.place-index 0 c.loop-place-test.true in
    slice_get_within objects (slice_index_or all c.loop-place.place-index 0) _ (StandAt-get objects all (ways_by_id objects) c.loop-place.place-index _ stand at).2

pub offset_bounds-objects-place : goal.offset_bounds-objects-place
offset_bounds-objects-place c =
    let within : slice_index_or c.deref-place-items.result.now c.loop-place.place-index 0 < length c.args.objects.now = bounds-objects-place c in
    search rules

pub loop-place-preserved : goal.loop-place-preserved
loop-place-preserved c =
    let objects = c.args.objects.now in
    let all = c.deref-place-items.result.now in
    let k = c.loop-place.place-index in
    let stand : StandAt objects all (ways_by_id objects) = subst (λ (x : List ℕ). StandAt objects x (ways_by_id objects)) (sym c.deref-place-items.ensures.value) c.in_ok-all.ensures in
    let at : slice_get all k ≡ Some (slice_index_or all k 0) = slice_get-get_or all k 0 c.loop-place-test.true in
    elim c.match-objects-place.branch [
      | in-Way+then-has_segments+in_ok-street+in_ok-push+in_ok-push-2 w ↦
          let some = sym (w.has_segments.ensures c.args.profile.now) ∙ w.if-has_segments.true in
          rw (w.streets-is, w.places-is)
          (step-add (spot_in c.args.spots.now) objects c.args.profile.now (ways_by_id objects) all c.loop-place.streets.items c.loop-place.places.items k (slice_index_or all k 0) c.index-objects-place.result w.in-Way.way w.way-usage.result
          stand at c.index-objects-place.is w.in-Way.is c.loop-place.invariant w.way-usage.ensures.value
          w.in_ok-street.field-0 w.push.new.self.items w.push-then-has_segments.new.self.items some (w.way-usage.ensures.speed (may-be-used (spot_in c.args.spots.now) c.args.profile.now w.way-usage.result w.in-Way.way some)) w.in_ok-street.ensures w.in_ok-push.ensures.items w.in_ok-push-2.ensures.items)
      | in-Way+else-has_segments w ↦
          let none = sym (w.has_segments.ensures c.args.profile.now) ∙ w.if-has_segments.false in
          rw (w.streets-is, w.places-is)
          (step-skip (spot_in c.args.spots.now) objects c.args.profile.now (ways_by_id objects) all c.loop-place.streets.items c.loop-place.places.items k (slice_index_or all k 0) c.index-objects-place.result w.in-Way.way w.way-usage.result
          stand at c.index-objects-place.is w.in-Way.is c.loop-place.invariant w.way-usage.ensures.value none)
      | in_default w ↦
          let g = StandAt-get objects all (ways_by_id objects) k (slice_index_or all k 0) stand at in
          let here = slice_get_read objects (length objects) (slice_index_or all k 0) c.index-objects-place.result refl (slice_get_within objects (slice_index_or all k 0) _ g.2) c.index-objects-place.is in
          absurd (w.in_default.not-Way g.0.1 (same_Some _ _ (sym here ∙ g.2)))
    ]
