use Rattle.via_paths.specs.StateLaws.{own-state, state-last}
use Rattle.via_paths.proofs.laws.vertices_are_states.Goals as goal

pub returns-clause-own : goal.returns-clause-own
returns-clause-own c = λ n q sequences copies ordinary are lt. own-state n sequences copies are ordinary q lt

pub returns-clause-last : goal.returns-clause-last
returns-clause-last c = λ n q copies walk state. state-last n q copies walk state
