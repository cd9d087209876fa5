use Rattle.board_core.proofs.Joining.{outcomes_more}
use Rattle.board_core.proofs.machine.Machine.step.Goals as goal

pub returns-in-Publish-clause-joins : goal.returns-in-Publish-clause-joins
returns-in-Publish-clause-joins c later = rw c.in-Publish.is (outcomes_more _ _ _ _ later c.publish.ensures)

pub returns-in-Enter-clause-joins : goal.returns-in-Enter-clause-joins
returns-in-Enter-clause-joins c later = rw c.in-Enter.is (outcomes_more _ _ _ _ later c.enter.ensures)

pub returns-in-Learn-clause-joins : goal.returns-in-Learn-clause-joins
returns-in-Learn-clause-joins c later = rw c.in-Learn.is (outcomes_more _ _ _ _ later c.learn.ensures)

pub returns-in-Tell-clause-joins : goal.returns-in-Tell-clause-joins
returns-in-Tell-clause-joins c later = rw c.in-Tell.is (outcomes_more _ _ _ _ later c.tell.ensures)
