use Rattle.std.proofs.Common.{◌∙◌}
use Rattle.std.specs.Arc.{arc_value}
use Rattle.serve_command.proofs.StartLaws.{first_metric}
use Rattle.serve_command.proofs.preparing.start_of.Goals as goal

-- the metric is that of the rows' costs
pub returns-clause-metric : goal.returns-clause-metric
returns-clause-metric g c =
    first_metric c.in_ok-roads.roads c.args.speeds.now c.args.turns.now c.in_ok-rows.rows c.in_ok-base.base (arc_value c.in_ok-metric-2.metric)
    c.in_ok-rows.ensures.rows c.in_ok-base.ensures.base (c.in_ok-metric-2.ensures ∙ c.in_ok-metric.ensures)
