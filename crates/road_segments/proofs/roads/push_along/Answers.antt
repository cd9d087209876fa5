use Rattle.std.proofs.Common.{◌≡◌, ◌+◌, ◌-◌, ◌<◌, refl, get_or, length, pos, rules, arith, ap, sym, ◌∙◌, FitsSigned, w64}
use Rattle.std.proofs.lemmas.Int.{to_z-of_z}
use Rattle.std.proofs.lemmas.List.Elements.{All-push}
use Rattle.road_segments.specs.Located.{segment_with, spot_in}
use Rattle.road_segments.specs.Segment.{segment_between}
use Rattle.road_segments.specs.declared.streets.Street.{Street}
use Rattle.road_segments.proofs.SegmentLemmas.{no-row-step, none-else, row-step}
use Rattle.road_segments.proofs.roads.push_along.Goals.{in-Some+in_ok-push, in_default}
use Rattle.road_segments.proofs.roads.push_along.Goals as goal

pub loop-i-preserved : goal.loop-i-preserved
loop-i-preserved c =
    let ids = c.args.ids.now in
    let i = c.loop-i.i in
    let a : FitsSigned w64 (get_or ids (i - 1) (pos 0)) = search rules in
    let b : FitsSigned w64 (get_or ids i (pos 0)) = search rules in
    let some : 0 < length ids = omega arith in
    let here : i + 1 - 1 ≡ i = omega arith in
    let from = c.loop-i.invariant.last some in
    let to : spot_in c.args.spots.now (get_or ids i (pos 0)) ≡ c.spot_in-next.result = simp to_z-of_z at (sym c.spot_in-next.ensures) in
    let ends : (s : Street) → segment_between (spot_in c.args.spots.now) s (get_or ids (i - 1) (pos 0)) (get_or ids i (pos 0)) ≡ segment_with s (get_or ids (i - 1) (pos 0)) (get_or ids i (pos 0)) c.ends_between.result =
    λ s. (simp to_z-of_z at (c.ends_between.ensures (spot_in c.args.spots.now) s)) from to in
    record {
      rest = λ streets. elim c.match-ends_between.branch [
        | in-Some+in_ok-push w ↦
            rw (w.rows-is, w.in_ok-push.ensures.items)
            (row-step (spot_in c.args.spots.now) c.args.street ids i c.args.rows.now.items c.loop-i.rows.items c.loop-i.auto.i c.loop-i-test.true c.loop-i.invariant.rest
            _ w.in-Some.from w.in-Some.to
            (record { tail = to_z-of_z w64 _ a; head = to_z-of_z w64 _ b; begins = refl; ends = refl; at_tail = refl; at_head = refl; on = refl })
            (λ s. ends s ∙ ap (segment_with s (get_or ids (i - 1) (pos 0)) (get_or ids i (pos 0))) w.in-Some.is) streets)
        | in_default w ↦
            rw w.rows-is
            (no-row-step (spot_in c.args.spots.now) c.args.street ids i c.args.rows.now.items c.loop-i.rows.items c.loop-i.auto.i c.loop-i-test.true c.loop-i.invariant.rest
            (λ s. ends s ∙ ap (segment_with s (get_or ids (i - 1) (pos 0)) (get_or ids i (pos 0))) (none-else c.ends_between.result (λ x e. w.in_default.not-Some x e))) streets)
      ];
      last = λ _. rw here to;
      in_range = λ n h all. elim c.match-ends_between.branch [
        | in-Some+in_ok-push w ↦ rw (w.rows-is, w.in_ok-push.ensures.items) (All-push (λ row. row.street < n) c.loop-i.rows.items _ (c.loop-i.invariant.in_range n h all) h)
        | in_default w ↦ rw w.rows-is (c.loop-i.invariant.in_range n h all)
      ];
    }
