use Rattle.std.proofs.Common.{◌≡◌, ◌++◌, ◌∷◌, [], All, List, Option, refl, arith}
use Rattle.std.proofs.lemmas.List.Elements.{All-push}
use Rattle.std.specs.Option.{ForSome}
use Rattle.search_graph.specs.RoadCosts.{road_cost_ops}
use Rattle.search_graph.specs.declared.costs.WeightDurLen.{WeightDurLen}
use Rattle.metric_make.specs.MetricOf.{IsShort}
use Rattle.metric_make.proofs.CostLemmas.{segment-step}
use Rattle.metric_make.proofs.vertices.vertex_costs.Goals as goal

-- what holds of each cost so far and of two more
both-pushed : (P : Option WeightDurLen → Type 0) (costs one both : List (Option WeightDurLen)) (first second : Option WeightDurLen) → one ≡ costs ++ first ∷ [] → both ≡ one ++ second ∷ [] → All P costs → P first → P second → All P both
both-pushed P costs one both first second e f so_far h k = rw (f, e) (All-push P (costs ++ first ∷ []) second (All-push P costs first so_far h) k)

pub loop-s-preserved : goal.loop-s-preserved
loop-s-preserved c = record {
  rest = segment-step c.args.network.now.profile.by_distance [] c.args.network.now.segments c.loop-s.s c.length-decimetres.result c.ends.result.0 c.ends.result.1 c.loop-s.costs c.push-in-loop-s.new.self c.cost.result c.cost-in-loop-s.result _
      (omega (arith, c.segments-s-end.ensures.value)) c.ends.ensures c.length-decimetres.ensures.value c.cost.ensures.value c.cost-in-loop-s.ensures.value
      (rw (c.in_ok-push-2.ensures.pushed, c.in_ok-push.ensures.pushed) refl) c.loop-s.invariant.rest;
  unit = both-pushed (λ o. ForSome o (λ x. road_cost_ops.units x 1)) c.loop-s.costs _ _ c.cost.result c.cost-in-loop-s.result c.in_ok-push.ensures.pushed c.in_ok-push-2.ensures.pushed c.loop-s.invariant.unit c.cost.ensures.unit c.cost-in-loop-s.ensures.unit;
  short = both-pushed (λ o. ForSome o IsShort) c.loop-s.costs _ _ c.cost.result c.cost-in-loop-s.result c.in_ok-push.ensures.pushed c.in_ok-push-2.ensures.pushed c.loop-s.invariant.short c.cost.ensures.short c.cost-in-loop-s.ensures.short;
}
