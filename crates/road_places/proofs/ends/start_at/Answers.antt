use Rattle.std.proofs.Common.{◌≡◌, subst, sym}
use Rattle.search_graph.specs.declared.costs.WeightDurLen.{WeightDurLen}
use Rattle.search_graph.specs.RoadCosts.{road_cost_ops}
use Rattle.road_places.specs.PartLaws.{before_part}
use Rattle.road_places.proofs.ends.start_at.Goals as goal

-- what lies before the place is a part of the whole
pub minus-cost-requires : goal.minus-cost-requires
minus-cost-requires c =
    let part = before_part c.in_ok-cost.cost c.parts_along.result c.parts_along.ensures.bound in
    (part.0, tt, subst (λ (x : WeightDurLen). c.in_ok-cost.cost ≡ road_cost_ops.plus x part.0) (sym c.before-passed.ensures) part.1)
