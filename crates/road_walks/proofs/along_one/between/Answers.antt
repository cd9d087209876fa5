use Rattle.std.proofs.Common.{ap, sym, ◌∙◌}
use Rattle.search_graph.specs.declared.costs.WeightDurLen.{WeightDurLen}
use Rattle.search_graph.specs.RoadCosts.{road_cost_ops}
use Rattle.road_places.specs.PartLaws.{before_grows, before_units, rest_units}
use Rattle.road_places.specs.Places.{before}
use Rattle.road_walks.proofs.along_one.between.Goals as goal

-- what lies before the first is a part of what lies before the last
pub minus-requires : goal.minus-requires
minus-requires c =
    let part = before_grows c.args.cost c.args.first c.args.last c.requires.order in
    (part.0, tt, c.before-2.ensures ∙ part.1 ∙ ap (λ (x : WeightDurLen). road_cost_ops.plus x part.0) (sym c.before-3.ensures))

pub returns-clause-value : goal.returns-clause-value
returns-clause-value c = sym c.before-2.ensures ∙ c.minus.ensures.rest ∙ ap (λ (x : WeightDurLen). road_cost_ops.plus x c.minus.result) c.before-3.ensures

-- a part of a part is within the unit of the whole
pub returns-clause-unit : goal.returns-clause-unit
returns-clause-unit c = rest_units (before c.args.cost c.args.last) (before c.args.cost c.args.first) c.minus.result 1 (returns-clause-value c) (before_units c.args.cost c.args.last 1 c.requires.within c.requires.small)
