use Rattle.std.proofs.lemmas.Result.{IfOk-weaker}
use Rattle.road_through.specs.Through.{IsLeastThrough}
use Rattle.road_walks.specs.Legs.{AreAlong}
use Rattle.reply_core.proofs.asked_routes.routes_of.Goals as goal

-- one walk through all places is a walk along each leg
pub returns-in-On-clause-along : goal.returns-in-On-clause-along
returns-in-On-clause-along g c =
    let road = c.args.under.now.road in
    let places = c.args.places.now in
    IfOk-weaker c.least_through.result (λ routes. IsLeastThrough road places routes.items) (λ routes. AreAlong road places routes.items) (λ routes least. least.through.along) c.least_through.ensures.through
