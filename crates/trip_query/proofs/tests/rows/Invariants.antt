use Rattle.std.proofs.Common.{◌≡◌, ◌^◌, All, length}
use Rattle.std.specs.Option.{ForSome}
use Rattle.search_graph.specs.RoadCosts.{road_cost_ops}
use Rattle.trip_query.proofs.tests.rows.Given as goal

-- each row so far has so many legs, which are within bounds
abbrev pub invariant-loop-line : goal.invariant-loop-line
invariant-loop-line g l = record {
  square : All (λ row. length row.items ≡ l.places) l.rows.items;
  units : All (λ row. All (λ leg. ForSome leg (λ cost. road_cost_ops.units cost (2 ^ 27))) row.items) l.rows.items;
}
