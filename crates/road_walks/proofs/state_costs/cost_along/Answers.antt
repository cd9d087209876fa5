use Rattle.std.proofs.Common.{Option, subst, sym}
use Rattle.search_graph.specs.declared.costs.WeightDurLen.{WeightDurLen}
use Rattle.road_walks.specs.BetweenParts.{IsCostAlong}
use Rattle.road_walks.proofs.BetweenLemmas.{along_between-cost}
use Rattle.road_walks.proofs.state_costs.cost_along.Goals as goal

pub returns : goal.returns
returns c =
    let road = c.args.under.now.road in
    subst (λ (value : Option WeightDurLen). IsCostAlong road c.args.from c.args.to c.args.ends.0 c.args.ends.1 value) (sym c.cost_of.ensures)
    (along_between-cost road c.args.from c.args.to c.args.ends.0 c.args.ends.1 c.in_ok-along.along c.in_ok-along.ensures.least)
