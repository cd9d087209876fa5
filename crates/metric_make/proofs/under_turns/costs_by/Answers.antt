-- A turn costs what it does by the profile, or what the row for it says.
use Rattle.std.proofs.Common.{◌≡◌, ℕ, ◌<◌, ◌*◌, [], Bool, List, None, Some, take, length, ◌∙◌, arith, subst, sym, ap}
use Rattle.std.specs.List.{slice_get}
use Rattle.std.proofs.lemmas.List.{length-map, take_all}
use Rattle.std.proofs.lemmas.List.Elements.{All-push}
use Rattle.list_lemmas.proofs.Gets.{All_get, get_some}
use Rattle.search_graph.specs.RoadCosts.{road_cost_ops}
use Rattle.search_graph.specs.declared.costs.WeightDurLen.{WeightDurLen}
use Rattle.road_segments.specs.Laws.{length-vertices}
use Rattle.edge_graph.specs.GraphLaws.{turns-in-graph}
use Rattle.edge_graph.specs.NetworkView.{graph_of, vertices_of}
use Rattle.metric_make.specs.LastRows.{AreTurnsTold}
use Rattle.metric_make.specs.MetricOf.{arc_cost, turn_cost, turn_cost_of, turn_cost_under}
use Rattle.metric_make.specs.TrafficRows.{is_turn_over}
use Rattle.metric_make.proofs.CostLemmas.{turn-step}
use Rattle.metric_make.proofs.LastRowLemmas.{take-push}
use Rattle.metric_make.proofs.UnderLemmas.{turn-read_cost, turn-under}
use Rattle.way_profile.specs.Vehicle.{ProfileView}
use Rattle.metric_make.proofs.under_turns.costs_by.Goals as goal

-- the turns are the first arcs
pub arc-requires : goal.arc-requires
arc-requires c =
    omega (arith, ap length c.requires.profile, length-map {A = ℕ × ℕ} {B = WeightDurLen} (graph_of c.args.network.now).arcs (arc_cost c.args.network.now []), turns-in-graph c.args.network.now, c.loop-i-test.true, c.turns-i-end.ensures.value)

pub cost_under-requires : goal.cost_under-requires
cost_under-requires c = All_get (λ a. road_cost_ops.units a 1) c.args.profile.now.arc c.loop-i.i c.arc.result c.requires.unit c.arc.ensures

pub loop-i-preserved : goal.loop-i-preserved
loop-i-preserved c =
    let network = c.args.network.now in
    let vs = vertices_of c.args.network.now in
    let turns = c.args.network.now.turns in
    let from = c.turn_at-from.result.0 in
    let to = c.turn_at-from.result.1 in
    let at : slice_get c.args.network.now.turns c.loop-i.i ≡ Some (c.turn_at-from.result.0, c.turn_at-from.result.1) = c.turn_at-from.ensures.is in
    let from_in : c.turn_at-from.result.0 < 2 * length c.args.network.now.segments = c.turn_at-from.ensures.from in
    let to_in : c.turn_at-from.result.1 < 2 * length c.args.network.now.segments = c.turn_at-from.ensures.to in
    let d = get_some vs from (omega (arith, length-vertices c.args.network.now.segments, from_in)) in
    let e = get_some vs to (omega (arith, length-vertices c.args.network.now.segments, to_in)) in
    let kind : c.by_distance-by_distance.result ≡ c.args.network.now.profile.by_distance = c.by_distance-by_distance.ensures ∙ ap (λ (p : ProfileView). p.by_distance) c.profile.ensures in
    let own : c.arc.result ≡ turn_cost network [] (from, to) = turn-read_cost network c.graph-graph.ensures.sound c.args.profile.now.arc c.loop-i.i from to c.arc.result c.requires.profile at c.arc.ensures in
    let cost : c.cost_under.result ≡ turn_cost network c.args.rows.now (from, to) =
    turn-under network c.args.rows.now from to d.0 e.0 c.arc.result c.cost_under.result d.1 e.1 own (λ penalty is.
    c.cost_under.ensures.value penalty (is ∙ ap (λ (b : Bool). turn_cost_of b penalty None) (sym kind))
    ∙ ap (λ (b : Bool). turn_cost_under b penalty c.row_for-row.result) kind
    ∙ ap (turn_cost_under c.args.network.now.profile.by_distance penalty) c.row_for-row.ensures.row) in
    record {
      rest = turn-step (turn_cost network c.args.rows.now) turns c.loop-i.i from to c.loop-i.costs c.push.new.self c.cost_under.result _
          at cost c.in_ok-push.ensures.pushed c.loop-i.invariant.rest;
      unit = rw c.in_ok-push.ensures.pushed (All-push (λ a. road_cost_ops.units a 1) c.loop-i.costs c.cost_under.result c.loop-i.invariant.unit c.cost_under.ensures.unit);
      told =
          subst (λ (l : List (ℕ × ℕ)). AreTurnsTold c.args.rows.now (λ q. is_turn_over vs l q.0 q.1 q.2) c.row_for-row.new.last) (sym (take-push {A = ℕ × ℕ} turns c.loop-i.i (from, to) at))
          (c.row_for-row.ensures.told (take c.loop-i.i turns) c.loop-i.invariant.told);
    }

pub returns-clause-told : goal.returns-clause-told
returns-clause-told c =
    let turns = c.args.network.now.turns in
    let all : take c.loop-i.i c.args.network.now.turns ≡ c.args.network.now.turns = take_all {A = ℕ × ℕ} c.loop-i.i c.args.network.now.turns (omega (arith, c.loop-i-test.false, c.turns-i-end.ensures.value)) in
    subst (λ (l : List (ℕ × ℕ)). AreTurnsTold c.args.rows.now (λ q. is_turn_over (vertices_of c.args.network.now) l q.0 q.1 q.2) c.loop-i.last) all c.loop-i.invariant.told

pub row_for-row-requires-clause-told : goal.row_for-row-requires-clause-told
row_for-row-requires-clause-told c = (take c.loop-i.i c.args.network.now.turns, c.loop-i.invariant.told)
