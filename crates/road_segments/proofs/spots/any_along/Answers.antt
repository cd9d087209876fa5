use Rattle.std.proofs.Common.{◌≡◌, ◌-◌, ◌<◌, ◌≤◌, ◌∙◌, ℤ, List, get_or, pos, length, arith, rules, sym, ap, FitsSigned, w64}
use Rattle.std.specs.Prelude.{nat_lt}
use Rattle.std.proofs.lemmas.Bool.Decides.{Decides-ltb}
use Rattle.std.proofs.Math.ListN.{drop_of_length-le}
use Rattle.std.proofs.lemmas.Int.{to_z-of_z}
use Rattle.road_segments.specs.Located.{spot_in}
use Rattle.road_segments.specs.Segment.{segments_along, segments_through}
use Rattle.road_segments.proofs.SegmentLemmas.{any-step, none-step}
use Rattle.road_segments.proofs.spots.any_along.Goals as goal

pub returns-then-is_some : goal.returns-then-is_some
returns-then-is_some c = λ street.
    let ids = c.args.ids.now in
    let i = c.loop-i.i in
    let a : FitsSigned w64 (get_or ids (i - 1) (pos 0)) = search rules in
    let b : FitsSigned w64 (get_or ids i (pos 0)) = search rules in
    let some : 0 < length (segments_along (spot_in c.args.spots.now) street ids) =
    any-step (spot_in c.args.spots.now) street ids i _ c.segment_ends.result c.loop-i-test.true (simp to_z-of_z at (c.segment_ends.ensures street)) (sym c.is_some.ensures ∙ c.if-is_some.true) (c.loop-i.invariant.rest street) in
    sym ((Decides-ltb 0 (length (segments_along (spot_in c.args.spots.now) street ids))).1 some)

pub loop-i-preserved : goal.loop-i-preserved
loop-i-preserved c =
    let ids = c.args.ids.now in
    let i = c.loop-i.i in
    let a : FitsSigned w64 (get_or ids (i - 1) (pos 0)) = search rules in
    let b : FitsSigned w64 (get_or ids i (pos 0)) = search rules in
    record {
      rest = λ street. none-step (spot_in c.args.spots.now) street ids i _ c.segment_ends.result c.loop-i.auto.i c.loop-i-test.true (simp to_z-of_z at (c.segment_ends.ensures street)) (sym c.is_some.ensures ∙ c.if-is_some.false) (c.loop-i.invariant.rest street);
      near = omega arith;
    }

pub returns : goal.returns
returns c = λ street.
    let ids = c.args.ids.now in
    let last = get_or ids (c.loop-i.i - 1) (pos 0) in
    let end : length ids ≤ c.loop-i.i = omega arith in
    let none : length (segments_along (spot_in c.args.spots.now) street ids) ≡ 0 =
    sym (c.loop-i.invariant.rest street) ∙ ap (λ (more : List ℤ). length (segments_through (spot_in c.args.spots.now) street last more)) (drop_of_length-le ids end) in
    ap (nat_lt 0) (sym none)
