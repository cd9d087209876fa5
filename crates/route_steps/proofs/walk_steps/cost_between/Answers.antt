use Rattle.route_steps.proofs.SumLemmas.{paid-units, turns-units}
use Rattle.route_steps.proofs.walk_steps.cost_between.Goals as goal

-- what is paid at the vertices, and what at the turns, is a part of all that is paid
pub total_between-paid-requires-clause-small : goal.total_between-paid-requires-clause-small
total_between-paid-requires-clause-small c = paid-units c.as_slice.result.now c.args.course.now.paid c.args.course.now.turns c.as_slice.ensures c.requires.course.small

pub total_between-turns-requires-clause-small : goal.total_between-turns-requires-clause-small
total_between-turns-requires-clause-small c = turns-units c.as_slice-2.result.now c.args.course.now.paid c.args.course.now.turns c.as_slice-2.ensures c.requires.course.small
