use Rattle.std.proofs.Common.{◌≡◌, ◌*◌, [], length, ap, ◌∙◌}
use Rattle.std.specs.Option.{ForSome}
use Rattle.std.proofs.lemmas.Option.{none-some}
use Rattle.search_graph.specs.RoadCosts.{road_cost_ops}
use Rattle.metric_make.specs.CopyLaws.{All-with_copies, length-with_copies}
use Rattle.metric_make.specs.MetricOf.{IsShort}
use Rattle.metric_make.proofs.MetricLemmas.{length-vertex_costs}
use Rattle.metric_make.proofs.base_metric.base.Goals as goal

pub with_copies-requires : goal.with_copies-requires
with_copies-requires c = ap length c.in_ok-vertex_costs.ensures.value ∙ length-vertex_costs c.args.network.now []

pub of_costs-requires-clause-vertices : goal.of_costs-requires-clause-vertices
of_costs-requires-clause-vertices c =
    let many : length c.in_ok-vertex_costs.field-0 ≡ 2 * length c.args.network.now.segments = ap length c.in_ok-vertex_costs.ensures.value ∙ length-vertex_costs c.args.network.now [] in
    ap length c.in_ok-vertices.ensures ∙ length-with_copies c.args.network.now c.in_ok-vertex_costs.field-0 many

pub of_costs-requires-clause-within : goal.of_costs-requires-clause-within
of_costs-requires-clause-within c = record {
  vertex = rw c.in_ok-vertices.ensures (All-with_copies c.args.network.now (λ o. ForSome o (λ x. road_cost_ops.units x 1)) (λ x e. absurd (none-some x e)) c.in_ok-vertex_costs.field-0 c.in_ok-vertex_costs.ensures.unit);
  arc = c.in_ok-arcs.ensures.unit;
  short = rw c.in_ok-vertices.ensures (All-with_copies c.args.network.now (λ o. ForSome o IsShort) (λ x e. absurd (none-some x e)) c.in_ok-vertex_costs.field-0 c.in_ok-vertex_costs.ensures.short);
}
