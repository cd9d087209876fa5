use Rattle.std.proofs.Common.{◌^◌, All}
use Rattle.std.specs.Option.{ForSome}
use Rattle.search_graph.specs.RoadCosts.{road_cost_ops}
use Rattle.trip_query.proofs.tests.row.Given as goal

-- each leg so far is within bounds
abbrev pub invariant-loop-text : goal.invariant-loop-text
invariant-loop-text g l = All (λ leg. ForSome leg (λ cost. road_cost_ops.units cost (2 ^ 27))) l.row.items
