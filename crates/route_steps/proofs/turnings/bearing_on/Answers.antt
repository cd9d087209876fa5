use Rattle.std.proofs.Common.{◌∙◌, sym}
use Rattle.route_steps.proofs.VertexLemmas.{bearing_on-even, bearing_on-odd}
use Rattle.route_steps.proofs.turnings.bearing_on.Goals as goal

pub returns-then-v-eq0-clause-value : goal.returns-then-v-eq0-clause-value
returns-then-v-eq0-clause-value c =
    c.bearing.ensures.value ∙ sym (bearing_on-even c.args.network.now c.args.v c.ends.result.0 c.ends.result.1 c.ends.ensures c.if-v-eq0.true)

pub returns-else-v-eq0-clause-value : goal.returns-else-v-eq0-clause-value
returns-else-v-eq0-clause-value c =
    c.bearing-else-v-eq0.ensures.value ∙ sym (bearing_on-odd c.args.network.now c.args.v c.ends.result.0 c.ends.result.1 c.ends.ensures c.if-v-eq0.false)
