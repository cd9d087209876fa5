use Rattle.std.proofs.Common.{ℕ, ◌≡◌, ◌^◌, List, Option, All, ap, arith, length, subst, sym, ◌∙◌}
use Rattle.std.specs.Prelude.{IfOk}
use Rattle.std.specs.Option.{ForSome}
use Rattle.search_graph.specs.declared.costs.WeightDurLen.{WeightDurLen}
use Rattle.search_graph.specs.RoadCosts.{road_cost_ops}
use Rattle.trip_query.specs.Trips.{IsBestTrip, lists_of}
use Rattle.road_trips.proofs.RowLemmas.{all-vectors, vectors-length}
use Rattle.road_trips.proofs.orders.best_by.Goals as goal

pub best-requires-clause-some : goal.best-requires-clause-some
best-requires-clause-some c =
    let as_many = vectors-length c.deref.result.now c.args.rows.now (ap lists_of c.deref.ensures.value ∙ c.in_ok-vectors.ensures) in
    omega (arith, as_many, c.requires.some)

pub best-requires-clause-few : goal.best-requires-clause-few
best-requires-clause-few c =
    let as_many = vectors-length c.deref.result.now c.args.rows.now (ap lists_of c.deref.ensures.value ∙ c.in_ok-vectors.ensures) in
    omega (arith, as_many, c.requires.few)

pub best-requires-clause-square : goal.best-requires-clause-square
best-requires-clause-square c =
    let rows = c.args.rows.now in
    let vectors = c.deref.result.now in
    let same = ap lists_of c.deref.ensures.value ∙ c.in_ok-vectors.ensures in
    let as_many = vectors-length vectors rows same in
    all-vectors (λ (row : List (Option WeightDurLen)). length row ≡ length vectors) vectors rows same
    (subst (λ (n : ℕ). All (λ (row : List (Option WeightDurLen)). length row ≡ n) rows) (sym as_many) c.requires.square)

pub best-requires-clause-units : goal.best-requires-clause-units
best-requires-clause-units c =
    all-vectors (All (λ (value : Option WeightDurLen). ForSome value (λ d. road_cost_ops.units d (2 ^ 27)))) c.deref.result.now c.args.rows.now (ap lists_of c.deref.ensures.value ∙ c.in_ok-vectors.ensures) c.requires.units

pub returns-clause-best : goal.returns-clause-best
returns-clause-best c =
    subst (λ (rows : List (List (Option WeightDurLen))). IfOk c.best.result (IsBestTrip road_cost_ops rows c.args.rule)) (ap lists_of c.deref.ensures.value ∙ c.in_ok-vectors.ensures) c.best.ensures.best
