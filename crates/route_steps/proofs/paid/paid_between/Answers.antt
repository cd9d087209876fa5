use Rattle.std.proofs.Common.{ap, sym, ◌∙◌}
use Rattle.search_graph.specs.RoadCosts.{road_cost_ops}
use Rattle.search_graph.specs.declared.costs.WeightDurLen.{WeightDurLen}
use Rattle.road_places.specs.Paid.{cost_on}
use Rattle.road_places.specs.PartLaws.{before_grows}
use Rattle.road_places.specs.Places.{parts_along}
use Rattle.route_steps.proofs.paid.paid_between.Goals as goal

-- what lies before the first place is a part of what lies before the other
pub minus-requires : goal.minus-requires
minus-requires c =
    let part = before_grows (cost_on c.args.base.now.weights c.args.v) (parts_along c.args.from c.args.v) (parts_along c.args.to c.args.v) c.requires.ahead in
    (part.0, tt, c.paid_before.ensures ∙ part.1 ∙ ap (λ (x : WeightDurLen). road_cost_ops.plus x part.0) (sym c.paid_before-2.ensures))
