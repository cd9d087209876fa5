-- Each turn goes one step on, as long as one leads on.
use Rattle.std.proofs.Common.{◌≡◌, ℕ, ◌+◌, ◌-◌, ◌*◌, ◌%◌, ◌^◌, ◌<◌, ◌≤◌, ◌∷◌, ◌++◌, [], length, None, Some, Vec, List, Option, slice_index_or, inl, inr, refl, sym, subst, ap, ◌∙◌, arith}
use Rattle.std.specs.Global.{Global}
use Rattle.std.specs.Int.{bit_at}
use Rattle.std.specs.List.{slice_get}
use Rattle.std.proofs.lemmas.Bool.{cases_lt}
use Rattle.std.proofs.lemmas.Option.{slice_get_read}
use Rattle.trip_query.specs.Orders.{IsFirst}
use Rattle.trip_query.specs.Tails.{IsFirstStep, IsStep, Goes, onward, through, via}
use Rattle.trip_query.specs.Trips.{leg, lists_of}
use Rattle.trip_query.proofs.Bits.{power_within, shifted, some_within, without_smaller}
use Rattle.trip_query.proofs.Ending.{GoesOn, Leads, ended, finished, goes_on, leads}
use Rattle.trip_query.proofs.Reading.{items_read, row_within}
use Rattle.trip_query.proofs.Tailing.{tails_units}
use Rattle.trip_query.proofs.best_trips.order_from.Goals as goal

pub loop-step-init : goal.loop-step-init
loop-step-init g c = record {
  inside = c.requires.place;
  few = c.requires.set;
  goes = record {
    front = [];
    items = c.in_ok-push.ensures.items ∙ ap (λ l. l ++ c.args.place ∷ []) c.in_ok-order.ensures.items;
    whole = c.requires.tail.0;
    is_whole = c.requires.tail.1;
    left = c.requires.tail.0;
    is_left = c.requires.tail.1;
    each = λ rest f. f;
  };
}

pub first_step-requires-clause-tails : goal.first_step-requires-clause-tails
first_step-requires-clause-tails g c =
    let most : 2 ^ length c.args.paid.now.rows.now ≤ 2 ^ length c.args.paid.now.rows.now = omega arith in
    tails_units g.met.C.Cost.laws c.requires.ready most c.requires.tails

-- the row of the place, and what the step to the next tells
row_here : (g : _) (c : goal.In_ok-push-2 g) → slice_get c.args.paid.now.rows.now c.loop-step.at ≡ Some c.index-paid-at.result
row_here g c = slice_get_read c.args.paid.now.rows.now (length c.args.paid.now.rows.now) c.loop-step.at c.index-paid-at.result refl c.loop-step.invariant.inside c.index-paid-at.is

first_is : (g : _) (c : goal.In_ok-push-2 g) → IsFirstStep g.C.Cost.ops (via g.C.Cost.ops (lists_of c.args.tails.now) c.loop-step.set c.index-paid-at.result.items) (length c.index-paid-at.result.items) c.in-Some.step
first_is g c = subst (λ r. IsFirstStep g.C.Cost.ops (via g.C.Cost.ops (lists_of c.args.tails.now) c.loop-step.set r) (length r) c.in-Some.step) (items_read c.as_slice.ensures.value c.index-paid-at.is) c.in-Some.ensures

leads_on : (g : _) (c : goal.In_ok-push-2 g) → Leads g.C.Cost.ops (lists_of c.args.paid.now.rows.now) c.args.paid.now.ends.items (lists_of c.args.tails.now) c.loop-step.set (through g.C.Cost.ops (lists_of c.args.paid.now.rows.now) c.args.paid.now.ends.items c.index-paid-at.result.items) c.in-Some.step
leads_on g c =
    let few = c.loop-step.invariant.few in
    let filled : c.loop-step.set ≤ 2 ^ length c.args.paid.now.rows.now = omega (arith, few) in
    let units = row_within g.C.Cost.ops (2 ^ 27) c.args.paid.now.rows.now c.loop-step.at c.index-paid-at.result c.requires.ready.units (row_here g c) in
    leads g.met.C.Cost.laws c.requires.ready c.loop-step.set c.requires.tails filled few c.index-paid-at.result.items units
    (length c.index-paid-at.result.items) c.in-Some.step (c.requires.ready.square c.loop-step.at c.index-paid-at.result (row_here g c)) (first_is g c)

inside : (g : _) (c : goal.In_ok-push-2 g) → c.in-Some.step.place < length c.args.paid.now.rows.now
inside g c =
    let wide = c.requires.ready.square c.loop-step.at c.index-paid-at.result (row_here g c) in
    let lt = (first_is g c).within in
    omega (arith, wide, lt)

power_is : (g : _) (c : goal.In_ok-push-2 g) → 1 * 2 ^ c.in-Some.step.place % 18446744073709551616 ≡ 2 ^ c.in-Some.step.place
power_is g c = shifted c.in-Some.step.place c.loop-step.set (power_within c.loop-step.set c.in-Some.step.place (leads_on g c).there) c.loop-step.auto.set-fits.fits

pub overflow_shl-set : goal.overflow_shl-set
overflow_shl-set g c = let lt = inside g c in omega (arith, lt, c.requires.ready.few)

pub overflow_sub-set : goal.overflow_sub-set
overflow_sub-set g c = let p = power_is g c in let w = power_within c.loop-step.set c.in-Some.step.place (leads_on g c).there in omega (arith, p, w)

pub loop-step-smaller : goal.loop-step-smaller
loop-step-smaller g c = let p = power_is g c in let w = without_smaller c.loop-step.set c.in-Some.step.place (leads_on g c).there in omega (arith, p, w)

pub loop-step-preserved : goal.loop-step-preserved
loop-step-preserved g c =
    let ops = g.C.Cost.ops in
    let few = c.loop-step.invariant.few in
    let filled : c.loop-step.set ≤ 2 ^ length c.args.paid.now.rows.now = omega (arith, few) in
    let units = row_within g.C.Cost.ops (2 ^ 27) c.args.paid.now.rows.now c.loop-step.at c.index-paid-at.result c.requires.ready.units (row_here g c) in
    let p = power_is g c in
    let less = without_smaller c.loop-step.set c.in-Some.step.place (leads_on g c).there in
    let some = some_within c.loop-step.set c.in-Some.step.place (leads_on g c).there in
    record {
      inside = inside g c;
      few = omega (arith, p, less, few);
      goes =
          subst (λ n. GoesOn ops (lists_of c.args.paid.now.rows.now) c.args.paid.now.ends.items (lists_of c.args.tails.now) c.args.all c.args.place c.push-in-Some.new.self.items (c.loop-step.set - n) c.in-Some.step.place) (sym p)
          (subst (λ l. GoesOn ops (lists_of c.args.paid.now.rows.now) c.args.paid.now.ends.items (lists_of c.args.tails.now) c.args.all c.args.place l (c.loop-step.set - 2 ^ c.in-Some.step.place) c.in-Some.step.place) (sym c.in_ok-push-2.ensures.items)
          (goes_on g.met.C.Cost.laws c.requires.ready c.loop-step.set c.requires.tails filled few
          c.loop-step.at c.index-paid-at.result (row_here g c) units some c.args.all c.args.place c.loop-step.order.items c.in-Some.step c.loop-step.invariant.inside few c.loop-step.invariant.goes (leads_on g c)));
    }

pub returns : goal.returns
returns g c =
    let ops = g.C.Cost.ops in
    let laws = g.met.C.Cost.laws in
    let rows = c.args.paid.now.rows.now in
    let ends = c.args.paid.now.ends.items in
    let tails = c.args.tails.now in
    let set = c.loop-step.set in
    let row = c.index-paid-at.result in
    let few = c.loop-step.invariant.few in
    let filled : set ≤ 2 ^ length rows = omega (arith, few) in
    let at = slice_get_read rows (length rows) c.loop-step.at row refl c.loop-step.invariant.inside c.index-paid-at.is in
    let units = row_within ops (2 ^ 27) rows c.loop-step.at row c.requires.ready.units at in
    let none : IsStep ops (via ops (lists_of tails) set row.items) (length row.items) None = subst (λ r. IsStep ops (via ops (lists_of tails) set r) (length r) None) (items_read c.as_slice.ensures.value c.index-paid-at.is) c.in_default.ensures in
    let so = c.loop-step.invariant.goes in
    let nothing : set ≡ 0 = elim (cases_lt 0 set) [
      | inl some ↦ absurd (ended laws c.requires.ready set c.requires.tails filled few c.loop-step.at row at units some
          (length row.items) so.left (c.requires.ready.square c.loop-step.at row at) c.loop-step.invariant.inside few so.is_left none)
      | inr ge ↦ omega (arith, ge)
    ] in (
      so.whole,
      so.is_whole,
      record {
        rest = so.front;
        items = so.items;
        first = finished laws c.requires.ready set c.requires.tails filled few c.args.all c.args.place c.loop-step.at c.loop-step.order.items c.loop-step.invariant.inside few nothing so;
      },
    )
