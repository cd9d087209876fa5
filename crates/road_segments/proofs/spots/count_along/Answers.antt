use Rattle.std.proofs.Common.{◌≡◌, ◌+◌, ◌-◌, cond, get_or, pos, arith, rules, FitsSigned, w64}
use Rattle.std.specs.Prelude.{is_some}
use Rattle.std.proofs.lemmas.Int.{to_z-of_z}
use Rattle.std.proofs.lemmas.Grind.{common_steps}
use Rattle.road_segments.specs.Located.{spot_in}
use Rattle.road_segments.proofs.SegmentLemmas.{count-step}
use Rattle.road_segments.proofs.spots.count_along.Goals.{then-is_some, else-is_some}
use Rattle.road_segments.proofs.spots.count_along.Goals as goal

pub loop-i-preserved : goal.loop-i-preserved
loop-i-preserved c =
    let a : FitsSigned w64 (get_or c.args.ids.now (c.loop-i.i - 1) (pos 0)) = search rules in
    let b : FitsSigned w64 (get_or c.args.ids.now c.loop-i.i (pos 0)) = search rules in
    let more : c.if-is_some.count ≡ c.loop-i.count + cond (is_some c.segment_ends.result) 1 0 =
    elim c.if-is_some.branch [ then-is_some w ↦ grind (arith, common_steps) | else-is_some w ↦ grind (arith, common_steps) ] in
    record {
      rest = λ street. count-step (spot_in c.args.spots.now) street c.args.ids.now c.loop-i.i c.loop-i.count c.if-is_some.count _ c.segment_ends.result
          c.loop-i.auto.i c.loop-i-test.true (simp to_z-of_z at (c.segment_ends.ensures street)) more (c.loop-i.invariant.rest street);
      few = elim c.if-is_some.branch [ then-is_some w ↦ omega arith | else-is_some w ↦ omega arith ];
      near = omega arith;
    }

pub returns-clause-bound : goal.returns-clause-bound
returns-clause-bound c = omega arith
