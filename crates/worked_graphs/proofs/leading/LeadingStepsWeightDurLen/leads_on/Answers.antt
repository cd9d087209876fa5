-- An exit's row has the cell's name, and no costs.
use Rattle.std.proofs.Common.{arith}
use Rattle.worked_graphs.proofs.LeadingRing.{leads_by}
use Rattle.worked_graphs.proofs.leading.LeadingStepsWeightDurLen.leads_on.Goals as goal

pub returns : goal.returns
returns c = λ h. leads_by c.args.row c.args.place c.args.v c.arcs.result (omega (arith, c.if-v-eq0.false)) (omega (arith, c.if-v-gt2.false)) h c.arcs.ensures.named c.arcs.ensures.all
