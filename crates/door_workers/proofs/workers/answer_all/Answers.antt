use Rattle.std.proofs.Common.{Bool, subst, arith}
use Rattle.door_workers.specs.Passing.{PassesOne}
use Rattle.door_workers.proofs.Fronts.{prefix_self, prefix_trans}
use Rattle.door_workers.proofs.Passings.{so_far_none, so_far_then, to_end_then}
use Rattle.door_workers.proofs.workers.answer_all.Goals as goal

pub loop-init : goal.loop-init
loop-init g c = record { so_far = so_far_none _ _ c.requires.unended; seen = prefix_self _; kin = λ x k. k }

pub answer_next-requires-clause-unended : goal.answer_next-requires-clause-unended
answer_next-requires-clause-unended g c = λ κs lives. c.loop.invariant.so_far.goes.ended

pub answer_next-requires-clause-finished : goal.answer_next-requires-clause-finished
answer_next-requires-clause-finished g c =
    let passed = c.loop.invariant.so_far.goes.passed in
    omega (arith, passed.given, passed.finished, c.requires.finished)

pub answer_next-requires-clause-fits : goal.answer_next-requires-clause-fits
answer_next-requires-clause-fits g c = λ κs lives x kin. c.requires.fits x (c.loop.invariant.kin x kin)

pub loop-preserved : goal.loop-preserved
loop-preserved g c =
    let inv = c.loop.invariant in
    let call = c.answer_next.ensures in
    let one = subst (λ (b : Bool). PassesOne (g.D.Door.view c.loop.door) (g.D.Door.view c.answer_next.new.door) (g.Q.Querying.rule c.args.queries.now (g.S.Reading.seen c.answer_next.new.seat)) b) c.if-not-answer_next.false call.passes in record {
      so_far = rw c.saturating_add-count.ensures (so_far_then (g.Q.Querying.rule c.args.queries.now) (g.Q.Querying.longer c.args.queries.now) _ _ _ _ _ c.loop.count call.seen inv.so_far one);
      seen = prefix_trans _ _ _ inv.seen call.seen;
      kin = λ x k. inv.kin x (call.kin_stays x k);
    }

pub returns-then-not-answer_next-clause-gone : goal.returns-then-not-answer_next-clause-gone
returns-then-not-answer_next-clause-gone g c =
    let inv = c.loop.invariant in
    let call = c.answer_next.ensures in
    let one = subst (λ (b : Bool). PassesOne (g.D.Door.view c.loop.door) (g.D.Door.view c.answer_next.new.door) (g.Q.Querying.rule c.args.queries.now (g.S.Reading.seen c.answer_next.new.seat)) b) c.if-not-answer_next.true call.passes in
    to_end_then (g.Q.Querying.rule c.args.queries.now) (g.Q.Querying.longer c.args.queries.now) _ _ _ _ _ c.loop.count call.seen inv.so_far one

pub returns-then-not-answer_next-clause-seen : goal.returns-then-not-answer_next-clause-seen
returns-then-not-answer_next-clause-seen g c = prefix_trans _ _ _ c.loop.invariant.seen c.answer_next.ensures.seen

pub returns-then-not-answer_next-clause-kin_stays : goal.returns-then-not-answer_next-clause-kin_stays
returns-then-not-answer_next-clause-kin_stays g c = λ x k. c.loop.invariant.kin x (c.answer_next.ensures.kin_stays x k)
