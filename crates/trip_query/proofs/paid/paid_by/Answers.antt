-- Each turn has what is paid at one place more.
use Rattle.std.proofs.Common.{◌≡◌, length, subst, arith}
use Rattle.trip_query.specs.Tails.{IsListOf, begin_at, end_at}
use Rattle.trip_query.specs.Trips.{lists_of}
use Rattle.trip_query.proofs.Reading.{list_more, list_none}
use Rattle.trip_query.proofs.paid.paid_by.Goals as goal

pub loop-place-init : goal.loop-place-init
loop-place-init g c = record {
  begins = list_none (begin_at g.C.Cost.ops (lists_of c.args.rows.now) c.args.rule) c.in_ok-begins.ensures.items;
  ends = list_none (end_at g.C.Cost.ops (lists_of c.args.rows.now) c.args.rule) c.in_ok-ends.ensures.items;
}

pub loop-place-preserved : goal.loop-place-preserved
loop-place-preserved g c = record {
  begins = list_more c.loop-place.invariant.begins c.begin_at.ensures c.in_ok-push.ensures.items;
  ends = list_more c.loop-place.invariant.ends c.end_at.ensures c.in_ok-push-2.ensures.items;
}

pub returns-clause-begins : goal.returns-clause-begins
returns-clause-begins g c =
    let done : c.loop-place.place ≡ length c.args.rows.now = omega arith in
    subst (λ n. IsListOf (begin_at g.C.Cost.ops (lists_of c.args.rows.now) c.args.rule) n c.loop-place.begins.items) done c.loop-place.invariant.begins

pub returns-clause-ends : goal.returns-clause-ends
returns-clause-ends g c =
    let done : c.loop-place.place ≡ length c.args.rows.now = omega arith in
    subst (λ n. IsListOf (end_at g.C.Cost.ops (lists_of c.args.rows.now) c.args.rule) n c.loop-place.ends.items) done c.loop-place.invariant.ends
