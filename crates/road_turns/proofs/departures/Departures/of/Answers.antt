use Rattle.std.proofs.Common.{◌≡◌, rules, map}
use Rattle.road_turns.specs.DepartureParts.{departure_of, departures}
use Rattle.road_segments.specs.Vertex.{vertices}
use Rattle.road_turns.proofs.departures.Departures.of.Goals as goal
use Rattle.road_turns.proofs.departures.Departures.of.Goals.{in-Some+in_ok-order-in-Some, in-None+in_ok-order-in-None}

pub returns : goal.returns
returns c =
    let vs = vertices c.args.roads.now in
    elim c.match-branch-2.branch [
      | in-Some+in_ok-order-in-Some w ↦
          let given_is : map departure_of w.in-Some.numbers.items ≡ departures vs = search rules in
          let told = w.in_ok-order-in-Some.ensures vs given_is in
          search rules
      | in-None+in_ok-order-in-None w ↦ search rules
    ]
