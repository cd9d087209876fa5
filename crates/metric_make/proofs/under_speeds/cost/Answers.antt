-- A vertex that is open by the profile is permitted, and its length is that between its points.
use Rattle.std.proofs.Common.{◌≡◌, [], Bool, Some, None, arith, sym, ap, ◌∙◌}
use Rattle.std.specs.Prelude.{◌&&◌, option_map}
use Rattle.std.specs.Ordering.{int_eq}
use Rattle.list_lemmas.proofs.Gets.{get_some}
use Rattle.edge_graph.specs.NetworkView.{vertices_of}
use Rattle.road_segments.specs.Laws.{length-vertices}
use Rattle.search_graph.specs.declared.costs.WeightDurLen.{WeightDurLen}
use Rattle.traffic_files.specs.Ranges.{IsSpeedInRange}
use Rattle.way_profile.specs.Vehicle.{ProfileView}
use Rattle.metric_make.specs.MetricOf.{cost_under, vertex_cost}
use Rattle.metric_make.proofs.LastRowLemmas.{last_where-holds}
use Rattle.metric_make.proofs.MatchLemmas.{field-at}
use Rattle.metric_make.proofs.UnderLemmas.{closed-by_profile, cost-with_row, length-short, open-by_profile}
use Rattle.metric_make.proofs.WayLemmas.{rows-closed}
use Rattle.metric_make.proofs.under_speeds.cost.Goals as goal

pub returns-in_err-cost-clause-told : goal.returns-in_err-cost-clause-told
returns-in_err-cost-clause-told c =
    let vs = vertices_of c.args.network.now in
    let x = get_some vs c.args.v (omega (arith, length-vertices c.args.network.now.segments, c.requires.vertex)) in
    let own : vertex_cost c.args.network.now.profile.by_distance [] x.0 ≡ None =
    field-at (vertex_cost c.args.network.now.profile.by_distance []) vs c.args.v x.0 c.args.by_profile x.1 c.requires.profile ∙ c.in_err-cost.was in
    rows-closed vs c.args.v x.0 x.1 (closed-by_profile c.args.network.now.profile.by_distance c.args.rows.now x.0 own).0 c.args.rows.now c.args.table.now c.requires.told

pub cost_under-requires-clause-row : goal.cost_under-requires-clause-row
cost_under-requires-clause-row c =
    let vs = vertices_of c.args.network.now in
    let x = get_some vs c.args.v (omega (arith, length-vertices c.args.network.now.segments, c.requires.vertex)) in
    last_where-holds IsSpeedInRange (λ r. int_eq r.from x.0.tail && int_eq r.to x.0.head) c.args.rows.now c.requires.in_range c.in-Some.row (sym (c.in-Some.ensures.row x.0 x.1))

pub cost_under-requires-clause-length : goal.cost_under-requires-clause-length
cost_under-requires-clause-length c =
    let vs = vertices_of c.args.network.now in
    let x = get_some vs c.args.v (omega (arith, length-vertices c.args.network.now.segments, c.requires.vertex)) in
    let own : vertex_cost c.args.network.now.profile.by_distance [] x.0 ≡ Some c.in_ok-cost.cost =
    field-at (vertex_cost c.args.network.now.profile.by_distance []) vs c.args.v x.0 c.args.by_profile x.1 c.requires.profile ∙ c.in_ok-cost.was in
    length-short c.args.network.now.profile.by_distance c.args.rows.now x.0 c.in_ok-cost.cost own

pub returns-in-Some-clause-value : goal.returns-in-Some-clause-value
returns-in-Some-clause-value c =
    let vs = vertices_of c.args.network.now in
    let x = get_some vs c.args.v (omega (arith, length-vertices c.args.network.now.segments, c.requires.vertex)) in
    let cost : WeightDurLen = c.in_ok-cost.cost in
    let own : vertex_cost c.args.network.now.profile.by_distance [] x.0 ≡ Some c.in_ok-cost.cost =
    field-at (vertex_cost c.args.network.now.profile.by_distance []) vs c.args.v x.0 c.args.by_profile x.1 c.requires.profile ∙ c.in_ok-cost.was in
    let kind : c.by_distance.result ≡ c.args.network.now.profile.by_distance = c.by_distance.ensures ∙ ap (λ (p : ProfileView). p.by_distance) c.profile.ensures in
    let paid : c.cost_under.result ≡ cost_under c.args.network.now.profile.by_distance cost.length x.0.speed (Some c.in-Some.row) =
    c.cost_under.ensures.value x.0.speed ∙ ap (λ (b : Bool). cost_under b cost.length x.0.speed (Some c.in-Some.row)) kind in
    ap (option_map (vertex_cost c.args.network.now.profile.by_distance c.args.rows.now)) x.1
    ∙ ap Some (cost-with_row c.args.network.now.profile.by_distance c.args.rows.now x.0 cost own c.in-Some.row (sym (c.in-Some.ensures.row x.0 x.1)) ∙ sym paid)

pub row_for-requires-clause-permitted : goal.row_for-requires-clause-permitted
row_for-requires-clause-permitted c =
    let vs = vertices_of c.args.network.now in
    let x = get_some vs c.args.v (omega (arith, length-vertices c.args.network.now.segments, c.requires.vertex)) in
    let own : vertex_cost c.args.network.now.profile.by_distance [] x.0 ≡ Some c.in_ok-cost.cost =
    field-at (vertex_cost c.args.network.now.profile.by_distance []) vs c.args.v x.0 c.args.by_profile x.1 c.requires.profile ∙ c.in_ok-cost.was in
    ap (option_map (λ y. y.permitted)) x.1 ∙ ap Some (open-by_profile c.args.network.now.profile.by_distance x.0 c.in_ok-cost.cost own).0
