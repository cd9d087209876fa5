use Rattle.std.proofs.Common.{◌≡◌}
use Rattle.std.specs.Prelude.{map}
use Rattle.road_places.specs.declared.walks.Route.{Route}
use Rattle.reply_core.proofs.route_answers.walks_of.Given as goal

-- the walks so far
abbrev pub invariant-loop-route : goal.invariant-loop-route
invariant-loop-route l = l.walks.items ≡ map (λ (route : Route). route.walk) l.yielded
