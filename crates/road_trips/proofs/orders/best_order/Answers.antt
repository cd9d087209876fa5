use Rattle.std.proofs.Common.{ℕ, ◌≡◌, List, Option, All, arith, length, subst, sym}
use Rattle.std.specs.Prelude.{IfOk, IfSome}
use Rattle.std.proofs.lemmas.Result.{IfOk-weaker}
use Rattle.list_lemmas.proofs.Fronts.{all_zip-length}
use Rattle.search_graph.specs.declared.costs.WeightDurLen.{WeightDurLen}
use Rattle.search_graph.specs.RoadCosts.{road_cost_ops}
use Rattle.edge_graph.specs.BuildCause.{IsWithinLimits}
use Rattle.trip_query.specs.Trips.{IsBestTrip}
use Rattle.road_walks.specs.Tables.{IsRowOf}
use Rattle.road_trips.specs.Trips.{IsBestThrough}
use Rattle.road_trips.proofs.RowLemmas.{few-units, row-widths}
use Rattle.road_trips.proofs.orders.best_order.Goals as goal

pub best_by-requires-clause-some : goal.best_by-requires-clause-some
best_by-requires-clause-some g c =
    let as_many = all_zip-length (IsRowOf c.args.under.now.road c.args.places.now) c.args.places.now c.in_ok-rows.rows c.in_ok-rows.ensures.least in
    omega (arith, as_many, c.requires.some)

pub best_by-requires-clause-few : goal.best_by-requires-clause-few
best_by-requires-clause-few g c =
    let as_many = all_zip-length (IsRowOf c.args.under.now.road c.args.places.now) c.args.places.now c.in_ok-rows.rows c.in_ok-rows.ensures.least in
    omega (arith, as_many, c.requires.few)

pub best_by-requires-clause-square : goal.best_by-requires-clause-square
best_by-requires-clause-square g c =
    let road = c.args.under.now.road in
    let places = c.args.places.now in
    let rows = c.in_ok-rows.rows in
    let as_many = all_zip-length (IsRowOf road places) places rows c.in_ok-rows.ensures.least in
    subst (λ (n : ℕ). All (λ (row : List (Option WeightDurLen)). length row ≡ n) rows) (sym as_many) (row-widths road places places rows c.in_ok-rows.ensures.least)

pub best_by-requires-clause-units : goal.best_by-requires-clause-units
best_by-requires-clause-units g c =
    let network = c.args.under.now.road.network in
    few-units network c.in_ok-rows.rows (subst IsWithinLimits c.network.ensures c.graph-few.ensures.limits) c.in_ok-rows.ensures.bound

pub returns-clause-best : goal.returns-clause-best
returns-clause-best g c =
    let road = c.args.under.now.road in
    let places = c.args.places.now in
    let rows = c.in_ok-rows.rows in
    IfOk-weaker c.best_by.result (IsBestTrip road_cost_ops rows c.args.rule) (IsBestThrough road places c.args.rule) (λ answer best. (rows, c.in_ok-rows.ensures.least, best)) c.best_by.ensures.best

pub returns-clause-size : goal.returns-clause-size
returns-clause-size g c =
    let as_many = all_zip-length (IsRowOf c.args.under.now.road c.args.places.now) c.args.places.now c.in_ok-rows.rows c.in_ok-rows.ensures.least in
    subst (λ (n : ℕ). IfOk c.best_by.result (λ answer. IfSome answer (λ trip. length trip.order ≡ n))) as_many c.best_by.ensures.size
