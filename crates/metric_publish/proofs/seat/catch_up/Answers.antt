use Rattle.metric_publish.proofs.Fronts.{prefix_trans, prefix_of_front}
use Rattle.metric_publish.proofs.seat.catch_up.Goals as goal

pub returns-then-begins-clause-caught : goal.returns-then-begins-clause-caught
returns-then-begins-clause-caught g c _ =
    prefix_trans _ _ _ (c.begins.ensures.yes c.if-begins.true) (prefix_of_front _ _ c.requires)
