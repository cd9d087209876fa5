use Rattle.std.proofs.Common.{arith, subst, ap, sym, Option}
use Rattle.std.specs.Prelude.{length}
use Rattle.search_graph.specs.declared.costs.WeightDurLen.{WeightDurLen}
use Rattle.search_graph.specs.Digraph.{Weighting}
use Rattle.search_graph.specs.RoadCosts.{road_cost_ops}
use Rattle.table_query.specs.LeastCosts.{IsLeastAmong}
use Rattle.edge_graph.specs.GraphLaws.{segments-in-graph}
use Rattle.road_places.specs.Permitted.{IsAlongOne}
use Rattle.road_walks.specs.Choosing.{IsLeastOf}
use Rattle.road_walks.specs.TableParts.{CanCostAlong, IsWithin}
use Rattle.road_walks.proofs.TableLemmas.{along-cost, along-within, cell-of}
use Rattle.road_walks.proofs.tables.cell_of.Goals as goal

-- a place on a segment has both its vertices among those of the network
pub along_one-requires-clause-few : goal.along_one-requires-clause-few
along_one-requires-clause-few c = omega (arith, c.requires.from.on_segment, segments-in-graph c.args.under.now.road.network, c.base.ensures.small.vertices, c.base.ensures.small.few)

pub along_one-requires-clause-in_range : goal.along_one-requires-clause-in_range
along_one-requires-clause-in_range c =
    let same = ap (λ (w : Weighting WeightDurLen). length w.vertex) c.base.ensures.value in
    omega (arith, same, c.requires.from.on_segment, segments-in-graph c.args.under.now.road.network, c.base.ensures.small.vertices)

-- the lesser of the two ways
pub returns : goal.returns
returns c =
    let road = c.args.under.now.road in
    let p = c.args.from in
    let q = c.args.to in
    cell-of road p q c.cost_of-along.result c.args.by_turns c.lesser.result c.lesser.ensures
    (subst (λ (value : Option WeightDurLen). IsLeastAmong road_cost_ops (CanCostAlong road.weights p q) value) (sym c.cost_of-along.ensures)
    (along-cost road.weights p q c.in_ok-along.along
    (subst (λ (w : Weighting WeightDurLen). IsLeastOf (IsAlongOne w p q) c.in_ok-along.along) c.base.ensures.value c.in_ok-along.ensures.least)))
    (subst (IsWithin road) (sym c.cost_of-along.ensures) (along-within road c.in_ok-along.along c.in_ok-along.ensures.unit))
    c.requires.by_turns
