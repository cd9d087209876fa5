use Rattle.route_steps.proofs.PointLemmas.{end_of-even, end_of-odd}
use Rattle.route_steps.proofs.walk_points.end_of.Goals as goal

pub returns-then-v-eq0 : goal.returns-then-v-eq0
returns-then-v-eq0 c = end_of-even c.args.network.now.segments c.args.v c.ends.result.0 c.ends.result.1 c.ends.ensures c.if-v-eq0.true

pub returns-else-v-eq0 : goal.returns-else-v-eq0
returns-else-v-eq0 c = end_of-odd c.args.network.now.segments c.args.v c.ends.result.0 c.ends.result.1 c.ends.ensures c.if-v-eq0.false
