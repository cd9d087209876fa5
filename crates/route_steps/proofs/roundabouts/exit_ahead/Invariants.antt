use Rattle.std.proofs.Common.{◌≡◌, ◌≤◌, drop}
use Rattle.route_steps.proofs.RoundLemmas.{ahead_with}
use Rattle.route_steps.proofs.roundabouts.exit_ahead.Given as goal

-- the vertices so far are round, and their exits are counted
abbrev pub invariant-loop-k : goal.invariant-loop-k
invariant-loop-k l = record {
  rest : ahead_with l.network 0 (drop l.place l.walk) ≡ ahead_with l.network l.count (drop l.k l.walk);
  few : l.count ≤ l.k;
}
