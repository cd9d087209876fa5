use Rattle.std.proofs.Common.{◌≡◌, ℕ, ◌*◌, ◌≤◌, ◌++◌, ◌∷◌, [], List, Option, Some, length, map, arith, subst, sym, ap, ◌∙◌}
use Rattle.std.specs.List.{slice_get}
use Rattle.std.specs.Option.{ForSome}
use Rattle.std.proofs.lemmas.List.{length-map, take_all}
use Rattle.std.proofs.lemmas.List.Elements.{All-push}
use Rattle.std.proofs.lemmas.Option.{slice_get-map}
use Rattle.list_lemmas.proofs.Fronts.{take-get}
use Rattle.list_lemmas.proofs.Gets.{All_get}
use Rattle.edge_graph.specs.GraphLaws.{segments-in-graph}
use Rattle.edge_graph.specs.NetworkView.{vertices_of}
use Rattle.road_segments.specs.Laws.{length-vertices}
use Rattle.road_segments.specs.Vertex.{Vertex}
use Rattle.search_graph.specs.RoadCosts.{road_cost_ops}
use Rattle.search_graph.specs.declared.costs.WeightDurLen.{WeightDurLen}
use Rattle.metric_make.specs.CopyLaws.{length-with_copies}
use Rattle.metric_make.specs.MetricOf.{IsShort, vertex_cost}
use Rattle.metric_make.specs.RowsOfWays.{AreRowsTold}
use Rattle.metric_make.proofs.UnderLemmas.{profile-read}
use Rattle.metric_make.proofs.under_speeds.costs_by.Goals as goal

pub vertex-requires : goal.vertex-requires
vertex-requires c =
    let own : List (Option WeightDurLen) = map (vertex_cost c.args.network.now.profile.by_distance []) (vertices_of c.args.network.now) in
    let many : length own ≡ 2 * length c.args.network.now.segments =
    length-map (vertices_of c.args.network.now) (vertex_cost c.args.network.now.profile.by_distance []) ∙ length-vertices c.args.network.now.segments in
    omega (arith, ap length c.requires.profile, length-with_copies c.args.network.now own many, segments-in-graph c.args.network.now, c.loop-v-test.true, c.segments-v-end.ensures.value)

pub cost-requires-clause-profile : goal.cost-requires-clause-profile
cost-requires-clause-profile c =
    profile-read c.args.network.now c.args.profile.now.vertex c.loop-v.v c.vertex.result (omega (arith, c.loop-v-test.true, c.segments-v-end.ensures.value)) c.requires.profile c.vertex.ensures

pub cost-requires-clause-unit : goal.cost-requires-clause-unit
cost-requires-clause-unit c = All_get (λ o. ForSome o (λ x. road_cost_ops.units x 1)) c.args.profile.now.vertex c.loop-v.v c.vertex.result c.requires.within.vertex c.vertex.ensures

pub cost-requires-clause-short : goal.cost-requires-clause-short
cost-requires-clause-short c = All_get (λ o. ForSome o IsShort) c.args.profile.now.vertex c.loop-v.v c.vertex.result c.requires.within.short c.vertex.ensures

pub loop-v-preserved : goal.loop-v-preserved
loop-v-preserved c =
    let f : Vertex → Option WeightDurLen = vertex_cost c.args.network.now.profile.by_distance c.args.rows.now in
    let vs = vertices_of c.args.network.now in
    let v = c.loop-v.v in
    let own : slice_get (map f vs) v ≡ Some c.cost.result = slice_get-map f vs v ∙ c.cost.ensures.value in
    record {
      paid = c.in_ok-push.ensures.pushed ∙ ap (λ (l : List (Option WeightDurLen)). l ++ c.cost.result ∷ []) c.loop-v.invariant.paid ∙ sym (take-get (map f vs) v c.cost.result own);
      unit = rw c.in_ok-push.ensures.pushed (All-push (λ o. ForSome o (λ x. road_cost_ops.units x 1)) c.loop-v.costs c.cost.result c.loop-v.invariant.unit c.cost.ensures.unit);
      short = rw c.in_ok-push.ensures.pushed (All-push (λ o. ForSome o IsShort) c.loop-v.costs c.cost.result c.loop-v.invariant.short c.cost.ensures.short);
      told = c.cost.ensures.told;
    }

pub returns-clause-value : goal.returns-clause-value
returns-clause-value c =
    let f : Vertex → Option WeightDurLen = vertex_cost c.args.network.now.profile.by_distance c.args.rows.now in
    let vs = vertices_of c.args.network.now in
    let all : length (map f vs) ≤ c.loop-v.v = omega (arith, length-map vs f, length-vertices c.args.network.now.segments, c.segments-v-end.ensures.value, c.loop-v-test.false) in
    c.loop-v.invariant.paid ∙ take_all c.loop-v.v (map f vs) all

pub returns-clause-told : goal.returns-clause-told
returns-clause-told c =
    let all : c.loop-v.v ≡ 2 * length c.args.network.now.segments = omega (arith, c.segments-v-end.ensures.value, c.loop-v-test.false) in
    subst (λ (n : ℕ). AreRowsTold (vertices_of c.args.network.now) c.args.rows.now n c.loop-v.table) all c.loop-v.invariant.told
