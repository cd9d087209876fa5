use Rattle.std.proofs.Common.{◌≡◌, ◌+◌, ◌≤◌, reverse, take}
use Rattle.route_steps.proofs.RoundLemmas.{number_with}
use Rattle.route_steps.proofs.roundabouts.exit_behind.Given as goal

-- the vertices from place k on are round, and their exits are counted
abbrev pub invariant-loop-k : goal.invariant-loop-k
invariant-loop-k l = record {
  rest : number_with l.network 0 (reverse (take l.place l.walk)) ≡ number_with l.network l.count (reverse (take l.k l.walk));
  few : l.count + l.k ≤ l.place;
}
