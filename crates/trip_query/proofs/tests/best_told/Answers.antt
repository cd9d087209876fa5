-- A table of so many rows of so many legs is square.
use Rattle.std.proofs.Common.{◌≡◌, ◌^◌, All, List, Option, Vec, length, sym, subst}
use Rattle.std.specs.Global.{Global}
use Rattle.std.specs.Option.{ForSome}
use Rattle.search_graph.specs.declared.costs.WeightDurLen.{WeightDurLen}
use Rattle.search_graph.specs.RoadCosts.{road_cost_ops}
use Rattle.trip_query.proofs.tests.best_told.Goals as goal

pub best-requires-clause-square : goal.best-requires-clause-square
best-requires-clause-square g c =
    subst (λ (l : List (Vec (Option WeightDurLen) Global)). All (λ row. length row.items ≡ length l) l) (sym c.deref.ensures.value)
    (subst (λ n. All (λ row. length row.items ≡ n) c.in_ok-rows.rows.items) (sym c.in_ok-rows.ensures.each) c.in_ok-rows.ensures.square)

pub best-requires-clause-units : goal.best-requires-clause-units
best-requires-clause-units g c =
    subst (λ (l : List (Vec (Option WeightDurLen) Global)). All (λ row. All (λ leg. ForSome leg (λ cost. road_cost_ops.units cost (2 ^ 27))) row.items) l) (sym c.deref.ensures.value) c.in_ok-rows.ensures.units
