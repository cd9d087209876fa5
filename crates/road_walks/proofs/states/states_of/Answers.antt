use Rattle.std.proofs.Common.{rules, ℕ, ◌<◌, ◌^◌, List, length, subst, sym}
use Rattle.road_walks.proofs.StateLemmas.{states-few}
use Rattle.road_walks.proofs.states.states_of.Goals as goal

-- these are the states
pub returns-clause-states : goal.returns-clause-states
returns-clause-states c = search rules

-- there are no more than the graph has vertices, twice
pub returns-clause-few : goal.returns-clause-few
returns-clause-few c = subst (λ (l : List ℕ). length l < 2 ^ 32) (sym (returns-clause-states c)) (states-few c.args.network.now c.args.place c.graph-graph.ensures.few)
