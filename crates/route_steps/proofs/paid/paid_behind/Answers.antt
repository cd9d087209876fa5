use Rattle.std.proofs.Common.{ap, sym, ◌∙◌}
use Rattle.search_graph.specs.RoadCosts.{road_cost_ops}
use Rattle.search_graph.specs.declared.costs.WeightDurLen.{WeightDurLen}
use Rattle.road_places.specs.Paid.{cost_on}
use Rattle.road_places.specs.PartLaws.{before_part, parts_within}
use Rattle.road_places.specs.Places.{parts_along}
use Rattle.route_steps.proofs.paid.paid_behind.Goals as goal

-- what lies before the place is a part of the whole
pub minus-requires : goal.minus-requires
minus-requires c =
    let part = before_part (cost_on c.args.base.now.weights c.args.v) (parts_along c.args.place c.args.v) (parts_within c.args.place c.args.v c.requires.within) in
    (part.0, tt, c.cost_on.ensures.value ∙ part.1 ∙ ap (λ (x : WeightDurLen). road_cost_ops.plus x part.0) (sym c.paid_before.ensures))
