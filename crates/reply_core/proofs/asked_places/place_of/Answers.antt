use Rattle.reply_core.proofs.AnswerLemmas.{vertices-weighed}
use Rattle.reply_core.proofs.asked_places.place_of.Goals as goal

pub snap-requires-clause-weights : goal.snap-requires-clause-weights
snap-requires-clause-weights c =
    vertices-weighed c.args.under.now.road c.network-network.result.now c.base-base.result.now c.network-network.ensures c.base-base.ensures.value c.base-base.ensures.small.vertices
