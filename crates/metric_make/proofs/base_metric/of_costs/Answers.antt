use Rattle.metric_make.proofs.MetricLemmas.{metric_of-on}
use Rattle.metric_make.proofs.base_metric.of_costs.Goals as goal

pub returns-in_err-small_weights-clause-on : goal.returns-in_err-small_weights-clause-on
returns-in_err-small_weights-clause-on c speeds turns is = metric_of-on c.args.network.now c.graph-graph.ensures.sound c.graph-graph.ensures.few speeds turns _ is c.requires.within

pub returns-clause-on : goal.returns-clause-on
returns-clause-on c speeds turns is = metric_of-on c.args.network.now c.graph-graph.ensures.sound c.graph-graph.ensures.few speeds turns _ is c.requires.within
