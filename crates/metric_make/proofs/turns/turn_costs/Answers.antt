-- A turn costs the two parts of the profile's penalty.
use Rattle.std.proofs.Common.{◌≡◌, ℕ, ◌<◌, ◌*◌, [], Bool, None, Some, length, ◌∙◌, arith, sym, ap}
use Rattle.std.specs.List.{slice_get}
use Rattle.std.proofs.lemmas.List.Elements.{All-push}
use Rattle.list_lemmas.proofs.Gets.{get_some}
use Rattle.search_graph.specs.RoadCosts.{road_cost_ops}
use Rattle.road_segments.specs.Laws.{length-vertices}
use Rattle.edge_graph.specs.NetworkView.{vertices_of}
use Rattle.metric_make.specs.MetricOf.{turn_cost, turn_cost_of}
use Rattle.metric_make.proofs.CostLemmas.{turn-step}
use Rattle.metric_make.proofs.UnderLemmas.{profile-parts}
use Rattle.way_profile.specs.Vehicle.{ProfileView}
use Rattle.metric_make.proofs.turns.turn_costs.Goals as goal

pub loop-i-preserved : goal.loop-i-preserved
loop-i-preserved c =
    let network = c.args.network.now in
    let vs = vertices_of c.args.network.now in
    let from = c.turn_at-from.result.0 in
    let to = c.turn_at-from.result.1 in
    let at : slice_get c.args.network.now.turns c.loop-i.i ≡ Some (c.turn_at-from.result.0, c.turn_at-from.result.1) = c.turn_at-from.ensures.is in
    let from_in : c.turn_at-from.result.0 < 2 * length c.args.network.now.segments = c.turn_at-from.ensures.from in
    let to_in : c.turn_at-from.result.1 < 2 * length c.args.network.now.segments = c.turn_at-from.ensures.to in
    let d = get_some vs from (omega (arith, length-vertices c.args.network.now.segments, from_in)) in
    let e = get_some vs to (omega (arith, length-vertices c.args.network.now.segments, to_in)) in
    let kind : c.by_distance-by_distance.result ≡ c.args.network.now.profile.by_distance = c.by_distance-by_distance.ensures ∙ ap (λ (p : ProfileView). p.by_distance) c.profile.ensures in
    let cost : c.turn_cost_of.result ≡ turn_cost network [] (from, to) =
    c.turn_cost_of.ensures.value
    ∙ ap (λ (b : Bool). turn_cost_of b c.profile_penalty-penalty.result None) kind
    ∙ ap (λ (n : ℕ). turn_cost_of c.args.network.now.profile.by_distance n None) c.profile_penalty-penalty.ensures.value
    ∙ sym (profile-parts network from to d.0 e.0 d.1 e.1) in
    record {
      rest = turn-step (turn_cost network []) c.args.network.now.turns c.loop-i.i from to c.loop-i.costs c.push.new.self c.turn_cost_of.result _
          at cost c.in_ok-push.ensures.pushed c.loop-i.invariant.rest;
      unit = rw c.in_ok-push.ensures.pushed (All-push (λ a. road_cost_ops.units a 1) c.loop-i.costs c.turn_cost_of.result c.loop-i.invariant.unit c.turn_cost_of.ensures.unit);
    }
