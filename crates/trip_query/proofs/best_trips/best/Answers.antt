-- The first of the cheapest orders, by what is paid, is the best trip.
use Rattle.std.proofs.Common.{◌≡◌, IfSome, length, sym, subst}
use Rattle.trip_query.specs.Tails.{AreReady}
use Rattle.trip_query.specs.Trips.{IsBestTrip, lists_of}
use Rattle.trip_query.proofs.Reading.{wide_from_all}
use Rattle.trip_query.proofs.Whole.{answered, of_ok, ready_for, trip_all}
use Rattle.trip_query.proofs.best_trips.best.Goals as goal

pub paid_by-requires : goal.paid_by-requires
paid_by-requires g c = record { square = wide_from_all (length c.args.rows.now) c.args.rows.now c.requires.square }

pub first_order-requires : goal.first_order-requires
first_order-requires g c =
    let ready = ready_for g.met.C.Cost.laws c.args.rule c.requires.few c.requires.square c.requires.units c.in_ok-paid.ensures.begins c.in_ok-paid.ensures.ends in
    record { ready = subst (λ rows. AreReady g.C.Cost.ops rows c.in_ok-paid.paid.begins.items c.in_ok-paid.paid.ends.items) (sym c.in_ok-paid.ensures.rows) ready }

pub returns-clause-best : goal.returns-clause-best
returns-clause-best g c =
    let ready = ready_for g.met.C.Cost.laws c.args.rule c.requires.few c.requires.square c.requires.units c.in_ok-paid.ensures.begins c.in_ok-paid.ensures.ends in
    answered g.met.C.Cost.laws c.args.rule ready c.in_ok-paid.ensures.rows c.requires.some c.in_ok-paid.ensures.begins c.in_ok-paid.ensures.ends c.first_order.result c.first_order.ensures

pub returns-clause-size : goal.returns-clause-size
returns-clause-size g c =
    let ops = g.C.Cost.ops in
    let rows = c.args.rows.now in
    let ready = ready_for g.met.C.Cost.laws c.args.rule c.requires.few c.requires.square c.requires.units c.in_ok-paid.ensures.begins c.in_ok-paid.ensures.ends in
    let best = answered g.met.C.Cost.laws c.args.rule ready c.in_ok-paid.ensures.rows c.requires.some c.in_ok-paid.ensures.begins c.in_ok-paid.ensures.ends c.first_order.result c.first_order.ensures in
    of_ok c.first_order.result (IsBestTrip ops (lists_of rows) c.args.rule) (λ answer. IfSome answer (λ trip. length trip.order ≡ length rows)) best (trip_all ops rows c.args.rule)
