use Rattle.std.proofs.Common.{length, ap, ◌∙◌}
use Rattle.metric_make.proofs.MetricLemmas.{length-metric_vertices}
use Rattle.metric_make.proofs.base_metric.metric.Goals as goal

pub of_costs-requires-clause-vertices : goal.of_costs-requires-clause-vertices
of_costs-requires-clause-vertices c = ap length c.in_ok-vertex.ensures.value ∙ length-metric_vertices c.args.network.now c.args.speeds.now
