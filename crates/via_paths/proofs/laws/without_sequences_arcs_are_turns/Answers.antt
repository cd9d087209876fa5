use Rattle.std.proofs.Common.{refl}
use Rattle.via_paths.proofs.Expanding.{arcs-none}
use Rattle.via_paths.proofs.laws.without_sequences_arcs_are_turns.Goals as goal

pub returns-clause-copies : goal.returns-clause-copies
returns-clause-copies c = refl

pub returns-clause-arcs : goal.returns-clause-arcs
returns-clause-arcs c = λ n turns. arcs-none n turns
