-- What the test of two sets tells, at the first place.
use Rattle.class_sets.proofs.SameSets.{found-first, first-found, none-found, found-none}
use Rattle.class_sets.proofs.finding.equal_sets_are_found.Goals as goal

pub returns-clause-some : goal.returns-clause-some
returns-clause-some c = λ sets names k. (found-first sets names k, first-found sets names k)

pub returns-clause-none : goal.returns-clause-none
returns-clause-none c = λ sets names. (none-found sets names, found-none sets names)
