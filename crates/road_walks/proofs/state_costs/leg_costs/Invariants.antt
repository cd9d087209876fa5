use Rattle.std.proofs.Common.{◌≡◌, ℕ, ◌<◌, None, get_or, length}
use Rattle.road_walks.proofs.StateLemmas.{IsCostOf}
use Rattle.road_walks.proofs.state_costs.leg_costs.Given as goal

-- each pair of states so far has its cost
abbrev pub invariant-loop-pair : goal.invariant-loop-pair
invariant-loop-pair g l = record {
  count : length l.costs.items ≡ l.pair;
  each : (k : ℕ) → k < l.pair → IsCostOf l.under.road l.from l.to k (get_or l.costs.items k None);
}
