use Rattle.std.proofs.Common.{◌≡◌, [], List, Option, length, sym, ap, ap₂, ◌∙◌}
use Rattle.std.proofs.lemmas.Bool.{eqb-true}
use Rattle.std.proofs.lemmas.List.{nil_from_length}
use Rattle.std.proofs.lemmas.Result.{IfOk-weaker}
use Rattle.search_graph.specs.Digraph.{Weighting}
use Rattle.search_graph.specs.declared.costs.WeightDurLen.{WeightDurLen}
use Rattle.traffic_files.specs.declared.rows.SpeedRow.{SpeedRow}
use Rattle.metric_make.specs.MetricOf.{AreWithinUnit, IsMetricOn, MetricView, metric_of}
use Rattle.metric_make.proofs.MetricLemmas.{metric_of-on}
use Rattle.metric_make.proofs.base_metric.BaseMetric.under_speeds.Goals as goal

pub returns-then-is_empty-clause-on : goal.returns-then-is_empty-clause-on
returns-then-is_empty-clause-on c =
    let none : c.args.rows.now ≡ [] = nil_from_length c.args.rows.now (eqb-true (length c.args.rows.now) 0 (sym c.is_empty.ensures ∙ c.if-is_empty.true)) in
    let is : c.weights-profile.result.now ≡ (metric_of c.args.network.now c.args.rows.now []).weights =
    c.weights-profile.ensures.value ∙ ap (λ (b : MetricView). b.weights) c.requires.profile ∙ ap (λ (rows : List SpeedRow). (metric_of c.args.network.now rows []).weights) (sym none) in
    let on : IsMetricOn c.args.network.now (metric_of c.args.network.now c.args.rows.now []).weights =
    metric_of-on c.args.network.now c.graph-few.ensures.sound c.graph-few.ensures.few c.args.rows.now [] _ is c.weights-profile.ensures.unit in
    IfOk-weaker c.copy.result (λ copy. copy ≡ c.args.self.now) (λ copy. IsMetricOn c.args.network.now (metric_of c.args.network.now c.args.rows.now []).weights) (λ copy h. on) c.copy.ensures

pub returns-clause-on : goal.returns-clause-on
returns-clause-on c =
    let own : c.weights-profile.result.now ≡ (metric_of c.args.network.now [] []).weights = c.weights-profile.ensures.value ∙ ap (λ (b : MetricView). b.weights) c.requires.profile in
    let is : record { vertex = c.in_ok-vertex.vertex.costs; arc = c.weights-profile.result.now.arc } ≡ (metric_of c.args.network.now c.args.rows.now []).weights =
    ap₂ (λ (v : List (Option WeightDurLen)) (a : List WeightDurLen). record { vertex = v; arc = a }) c.in_ok-vertex.ensures.value (ap (λ (w : Weighting WeightDurLen). w.arc) own) in
    let within : AreWithinUnit (record { vertex = c.in_ok-vertex.vertex.costs; arc = c.weights-profile.result.now.arc }) =
    record { vertex = c.in_ok-vertex.ensures.unit; arc = c.weights-profile.ensures.unit.arc; short = c.in_ok-vertex.ensures.short } in
    metric_of-on c.args.network.now c.graph-few.ensures.sound c.graph-few.ensures.few c.args.rows.now [] _ is within
