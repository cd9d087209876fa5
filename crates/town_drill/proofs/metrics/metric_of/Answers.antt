use Rattle.std.proofs.Common.{List, subst, sym, ◌∙◌}
use Rattle.traffic_files.specs.Ranges.{AreSpeedsInRange}
use Rattle.traffic_files.specs.declared.rows.SpeedRow.{SpeedRow}
use Rattle.town_drill.proofs.RowRanges.{speeds-in_range}
use Rattle.town_drill.proofs.metrics.metric_of.Goals as goal

-- the rows are in the ranges of a file's
pub metric-requires-clause-speeds : goal.metric-requires-clause-speeds
metric-requires-clause-speeds g c =
    subst (λ (rows : List SpeedRow). AreSpeedsInRange rows) (sym (c.deref.ensures.value ∙ c.in_ok-rows.ensures)) (speeds-in_range c.args.n c.args.number c.requires.number)
