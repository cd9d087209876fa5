-- The first step, and the order behind it.
use Rattle.std.proofs.Common.{◌≡◌, ◌-◌, ◌*◌, ◌%◌, ◌^◌, ◌≤◌, length, None, Some, ap, sym, subst, ◌∙◌, arith}
use Rattle.std.proofs.lemmas.Option.{same_Some}
use Rattle.trip_query.specs.Orders.{IsFirst}
use Rattle.trip_query.specs.Tails.{AreWide, AreWithin, Goes, IsOrderFrom, IsWithin, through}
use Rattle.trip_query.specs.Trips.{leg, lists_of}
use Rattle.trip_query.proofs.Ending.{first_leads, first_leads_nowhere, others_are, step_over}
use Rattle.trip_query.proofs.Tailing.{tails_units}
use Rattle.trip_query.proofs.best_trips.first_order.Goals as goal

pub first_step-requires-clause-tails : goal.first_step-requires-clause-tails
first_step-requires-clause-tails g c =
    let most : 2 ^ length c.args.paid.now.rows.now ≤ 2 ^ length c.args.paid.now.rows.now = omega arith in
    subst (λ l. AreWithin g.C.Cost.ops (10 * 2 ^ 27) (lists_of l)) (sym c.deref.ensures.value) (tails_units g.met.C.Cost.laws c.requires.ready most c.in_ok-tails.ensures)

pub first_step-requires-clause-few : goal.first_step-requires-clause-few
first_step-requires-clause-few g c = omega (arith, ap length c.as_slice.ensures.value, c.requires.ready.begin_each, c.requires.ready.few)

pub first_step-requires-clause-wide : goal.first_step-requires-clause-wide
first_step-requires-clause-wide g c =
    let wide = c.in_ok-tails.ensures.wide in
    subst (λ l. AreWide (length c.as_slice.result.now) l) (sym c.deref.ensures.value) (λ i row e. wide i row e ∙ sym c.requires.ready.begin_each ∙ sym (ap length c.as_slice.ensures.value))

pub first_step-requires-clause-row : goal.first_step-requires-clause-row
first_step-requires-clause-row g c = subst (λ row. IsWithin g.C.Cost.ops (2 ^ 27) row) (sym c.as_slice.ensures.value) c.requires.ready.begin_units

pub returns-in-None : goal.returns-in-None
returns-in-None g c =
    let all : c.len-all.result - 1 ≡ 2 ^ length c.args.paid.now.rows.now - 1 = omega (arith, c.len-all.ensures, c.in_ok-tails.ensures.count, c.in_ok-tails.tails.ok.0) in
    first_leads_nowhere g.met.C.Cost.laws c.requires.ready c.in_ok-tails.ensures (step_over g.C.Cost.ops None c.deref.ensures.value all c.as_slice.ensures.value c.in-None.ensures)

pub order_from-requires-clause-place : goal.order_from-requires-clause-place
order_from-requires-clause-place g c = let within = c.in-Some.ensures.within in omega (arith, within, ap length c.as_slice.ensures.value, c.requires.ready.begin_each)

pub order_from-requires-clause-tail : goal.order_from-requires-clause-tail
order_from-requires-clause-tail g c =
    let step = c.in-Some.step in
    let all : c.len-all.result - 1 ≡ 2 ^ length c.args.paid.now.rows.now - 1 = omega (arith, c.len-all.ensures, c.in_ok-tails.ensures.count, c.in_ok-tails.tails.ok.0) in
    let l = first_leads g.met.C.Cost.laws c.requires.ready c.in_ok-tails.ensures step (step_over g.C.Cost.ops (Some step) c.deref.ensures.value all c.as_slice.ensures.value c.in-Some.ensures) in
    let others = others_are g.met.C.Cost.laws c.requires.ready c.in_ok-tails.ensures step l (c.len-all.result - 1) all in (
      l.tail,
      subst (λ t. leg (lists_of t) (c.len-all.result - 1 - 1 * 2 ^ step.place % 18446744073709551616) step.place ≡ Some l.tail) (sym c.deref-in-Some.ensures.value)
          (subst (λ n. leg (lists_of c.in_ok-tails.tails.items) n step.place ≡ Some l.tail) (sym others) l.is_tail),
    )

pub returns : goal.returns
returns g c =
    let ops = g.C.Cost.ops in
    let rows = lists_of c.args.paid.now.rows.now in
    let ends = c.args.paid.now.ends.items in
    let step = c.in-Some.step in
    let all : c.len-all.result - 1 ≡ 2 ^ length c.args.paid.now.rows.now - 1 = omega (arith, c.len-all.ensures, c.in_ok-tails.ensures.count, c.in_ok-tails.tails.ok.0) in
    let l = first_leads g.met.C.Cost.laws c.requires.ready c.in_ok-tails.ensures step (step_over ops (Some step) c.deref.ensures.value all c.as_slice.ensures.value c.in-Some.ensures) in
    let others = others_are g.met.C.Cost.laws c.requires.ready c.in_ok-tails.ensures step l (c.len-all.result - 1) all in
    let order = c.in_ok-order-in-Some.ensures in
    let tail : leg (lists_of c.in_ok-tails.tails.items) (2 ^ length c.args.paid.now.rows.now - 1 - 2 ^ step.place) step.place ≡ Some order.0 = subst (λ n. leg (lists_of c.in_ok-tails.tails.items) n step.place ≡ Some order.0) others
    (subst (λ t. leg (lists_of t) (c.len-all.result - 1 - 1 * 2 ^ step.place % 18446744073709551616) step.place ≡ Some order.0) c.deref-in-Some.ensures.value order.1) in
    let cost : order.0 ≡ l.tail = same_Some order.0 l.tail (sym tail ∙ l.is_tail) in
    let behind : IsOrderFrom ops rows ends (2 ^ length c.args.paid.now.rows.now - 1 - 2 ^ step.place) step.place l.tail c.in_ok-order-in-Some.order.items =
    subst (λ x. IsOrderFrom ops rows ends (2 ^ length c.args.paid.now.rows.now - 1 - 2 ^ step.place) step.place x c.in_ok-order-in-Some.order.items) cost
    (subst (λ n. IsOrderFrom ops rows ends n step.place order.0 c.in_ok-order-in-Some.order.items) others order.2) in
    subst (λ xs. IsFirst ops (Goes (2 ^ length c.args.paid.now.rows.now - 1)) (through ops rows ends c.args.paid.now.begins.items) xs step.cost) (sym (c.of.ensures ∙ behind.items)) (l.each behind.rest behind.first)
