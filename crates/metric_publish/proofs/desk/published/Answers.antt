use Rattle.std.proofs.Common.{ap, ◌∙◌}
use Rattle.metric_publish.proofs.Runs.{last_of-snoc}
use Rattle.metric_publish.specs.History.{last_of}
use Rattle.metric_publish.proofs.desk.published.Goals as goal

pub invariant_of-show : goal.invariant_of-show
invariant_of-show g c = record { last = ap last_of (c.add.ensures c.if-not-add.false) ∙ last_of-snoc _ _ }
