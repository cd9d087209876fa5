use Rattle.town_drill.proofs.TripLemmas.{vertices-weighed}
use Rattle.town_drill.proofs.trips.place_at.Goals as goal

pub snap-requires-clause-weights : goal.snap-requires-clause-weights
snap-requires-clause-weights c =
    vertices-weighed c.args.under.now.road c.network.result.now c.base.result.now.weights c.network.ensures c.base.ensures.value c.base.ensures.small.vertices
