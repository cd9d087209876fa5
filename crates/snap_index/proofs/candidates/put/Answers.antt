use Rattle.std.proofs.Common.{◌<◌, ◌∙◌, sym, length, arith}
use Rattle.std.specs.Prelude.{Some, None}
use Rattle.snap_index.proofs.SlotLemmas.{put-end, read-is, same-step, step-before, step-behind, step-empty, step-same}
use Rattle.snap_index.proofs.candidates.put.Goals as goal
use Rattle.snap_index.proofs.candidates.put.Goals.{then-precedes, else-precedes+else-is_one}

-- an empty slot
pub returns-in_default : goal.returns-in_default
returns-in_default c =
    let lt : c.loop-i.i < length c.loop-i.slots = omega arith in
    step-empty c.loop-i.slots c.loop-i.i c.loop-i.moved (read-is c.loop-i.slots c.loop-i.i _ None lt c.in_default.is) ∙ c.loop-i.invariant

-- it is there
pub returns-then-is_one : goal.returns-then-is_one
returns-then-is_one c =
    let lt : c.loop-i.i < length c.loop-i.slots = omega arith in
    step-same c.loop-i.slots c.loop-i.i c.loop-i.moved c.in-Some.there (read-is c.loop-i.slots c.loop-i.i _ (Some c.in-Some.there) lt c.in-Some.is)
    (sym c.precedes.ensures ∙ c.if-precedes.false) (sym c.is_one.ensures ∙ c.if-is_one.true)
    ∙ c.loop-i.invariant

-- one slot more
pub loop-i-preserved : goal.loop-i-preserved
loop-i-preserved c =
    let lt : c.loop-i.i < length c.loop-i.slots = omega arith in
    let at = read-is c.loop-i.slots c.loop-i.i _ (Some c.in-Some.there) lt c.in-Some.is in
    elim c.if-precedes.branch [
      | then-precedes w ↦ same-step _ _ _ _ c.loop-i.i _ w.slots-is w.moved-is
          (step-before c.loop-i.slots c.loop-i.i c.loop-i.moved c.in-Some.there at (sym c.precedes.ensures ∙ w.if-precedes.true) ∙ c.loop-i.invariant)
      | else-precedes+else-is_one w ↦ same-step _ _ _ _ c.loop-i.i _ w.slots-is w.moved-is
          (step-behind c.loop-i.slots c.loop-i.i c.loop-i.moved c.in-Some.there at (sym c.precedes.ensures ∙ w.if-precedes.false) (sym w.is_one.ensures ∙ w.if-is_one.false) ∙ c.loop-i.invariant)
    ]

pub returns : goal.returns
returns c = put-end c.loop-i.slots c.loop-i.i c.loop-i.moved (omega arith) ∙ c.loop-i.invariant
