-- Each turn has the tail from one place more.
use Rattle.std.proofs.Common.{◌≡◌, ℕ, ◌+◌, ◌<◌, ◌≤◌, length, None, Option, ◌∷◌, ◌++◌, [], slice_index_or, refl, sym, subst, ap, ◌∙◌, arith, length-append}
use Rattle.trip_query.specs.Tails.{IsTail}
use Rattle.trip_query.specs.Trips.{lists_of}
use Rattle.trip_query.proofs.Reading.{each_more}
use Rattle.trip_query.proofs.tails.tails_of_set.Goals as goal

pub loop-place-init : goal.loop-place-init
loop-place-init g c = record {
  size = ap length c.in_ok-values.ensures.items;
  each = λ k lt. absurd (omega (arith, lt));
}

pub loop-place-preserved : goal.loop-place-preserved
loop-place-preserved g c =
    let values = c.loop-place.values.items in
    let size = c.loop-place.invariant.size in
    let more = each_more (λ k v. IsTail g.C.Cost.ops (lists_of c.args.paid.now.rows.now) c.args.paid.now.ends.items c.args.set k v) values c.tail_of-value.result c.loop-place.place size c.loop-place.invariant.each c.tail_of-value.ensures in
    record {
      size = omega (arith, size, ap length c.in_ok-push.ensures.items, length-append values (c.tail_of-value.result ∷ []));
      each = λ k lt. subst (λ l. IsTail g.C.Cost.ops (lists_of c.args.paid.now.rows.now) c.args.paid.now.ends.items c.args.set k (slice_index_or l k None)) (sym c.in_ok-push.ensures.items) (more k lt);
    }

pub returns-clause-size : goal.returns-clause-size
returns-clause-size g c = let done : c.loop-place.place ≡ length c.args.paid.now.rows.now = omega arith in c.loop-place.invariant.size ∙ done

pub returns-clause-each : goal.returns-clause-each
returns-clause-each g c = λ k lt. let done : c.loop-place.place ≡ length c.args.paid.now.rows.now = omega arith in c.loop-place.invariant.each k (omega (arith, lt, done))
