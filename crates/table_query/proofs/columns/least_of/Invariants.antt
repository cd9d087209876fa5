use Rattle.std.proofs.Common.{take, Some}
use Rattle.std.specs.List.{Contains}
use Rattle.table_query.specs.LeastCosts.{IsLeastAmong}
use Rattle.table_query.proofs.columns.least_of.Given as goal

-- the best so far is the least of the costs so far
abbrev pub invariant-loop-cost : goal.invariant-loop-cost
invariant-loop-cost g l = IsLeastAmong g.C.Cost.ops (λ d. Contains (take l.cost-index l.costs) (Some d)) l.best
