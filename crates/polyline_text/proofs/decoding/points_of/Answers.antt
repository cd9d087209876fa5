use Rattle.std.proofs.Common.{rules, arith}
use Rattle.std.proofs.lemmas.List.{take_rest}
use Rattle.polyline_text.proofs.Reading.{point_taken, fault_found, all_taken}
use Rattle.polyline_text.proofs.decoding.points_of.Goals as goal

pub returns-in-Err : goal.returns-in-Err
returns-in-Err c =
    let i = c.loop-at.invariant in
    fault_found c.args.digits c.loop-at.at c.in-Err.offset i.1.0 c.args.bytes.now c.loop-at.points.items _ _
    (omega arith) i.1.1 i.1.2 (rw (← take_rest c.args.bytes.now c.loop-at.at) (search (rules, c.in-Err.ensures.value)))

pub loop-at-preserved : goal.loop-at-preserved
loop-at-preserved c =
    let i = c.loop-at.invariant in
    let within = rw take_rest at c.in-Ok.ensures.taken in
    point_taken c.args.digits c.loop-at.at c.in-Ok.next.2 i.1.0 c.args.bytes.now c.loop-at.points.items _ _ _ _ _
    (omega arith) i.1.1 i.1.2 (rw (← take_rest c.args.bytes.now c.loop-at.at) (search (rules, c.in-Ok.ensures.value))) within.0 within.1 (search rules)

pub returns : goal.returns
returns c =
    let i = c.loop-at.invariant in
    all_taken c.args.digits c.loop-at.at i.1.0 c.args.bytes.now c.loop-at.points.items _ _ c.loop-at-test.false i.1.2
