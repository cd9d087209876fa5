use Rattle.std.proofs.Common.{◌≡◌, ℕ, ◌*◌, ◌<◌, arith, ap, sym, subst, ◌∙◌}
use Rattle.std.specs.Prelude.{length}
use Rattle.search_graph.specs.declared.costs.WeightDurLen.{WeightDurLen}
use Rattle.search_graph.specs.Digraph.{Weighting}
use Rattle.edge_graph.specs.GraphLaws.{segments-in-graph}
use Rattle.edge_graph.specs.NetworkView.{NetworkView, graph_of, stands}
use Rattle.road_places.specs.Permitted.{IsAlong}
use Rattle.road_places.specs.Places.{IsDirection}
use Rattle.road_walks.specs.Between.{IsAlongBetween}
use Rattle.road_walks.specs.Choosing.{IsLeastOf}
use Rattle.road_walks.specs.StateLaws.{state-is}
use Rattle.road_walks.proofs.LeastLemmas.{least-same}
use Rattle.road_walks.proofs.along_one.along_between.Goals as goal

-- a state is a vertex of the searched graph
pub stands_for-vertex-requires : goal.stands_for-vertex-requires
stands_for-vertex-requires c =
    let network = c.args.under.now.road.network in
    subst (λ (n : NetworkView). c.args.ends.0 < (graph_of n).vertices) (sym c.network.ensures) (state-is network c.args.from c.requires.from c.args.ends.0 c.requires.first).within

-- and stands for a direction of the segments of both places
pub along-requires-clause-in_range : goal.along-requires-clause-in_range
along-requires-clause-in_range c =
    let same = ap (λ (w : Weighting WeightDurLen). length w.vertex) c.base-base.ensures.value in
    let low = subst (λ (n : NetworkView). c.stands_for-vertex.result < 2 * length n.segments) c.network.ensures c.stands_for-vertex.ensures.ordinary in
    omega (arith, same, low, segments-in-graph c.args.under.now.road.network, c.base-base.ensures.small.vertices)

pub along-requires-clause-begins : goal.along-requires-clause-begins
along-requires-clause-begins c =
    let network = c.args.under.now.road.network in
    let at = c.stands_for-vertex.ensures.value ∙ ap (λ (n : NetworkView). stands n c.args.ends.0) c.network.ensures in
    subst (IsDirection c.args.from.segment) (sym at) (state-is network c.args.from c.requires.from c.args.ends.0 c.requires.first).direction

pub along-requires-clause-ends : goal.along-requires-clause-ends
along-requires-clause-ends c =
    let network = c.args.under.now.road.network in
    let at = c.stands_for-vertex.ensures.value ∙ ap (λ (n : NetworkView). stands n c.args.ends.0) c.network.ensures ∙ ap (stands network) c.if-ends.false in
    subst (IsDirection c.args.to.segment) (sym at) (state-is network c.args.to c.requires.to c.args.ends.1 c.requires.last).direction

-- the vertex alone ends with itself
pub returns-clause-least : goal.returns-clause-least
returns-clause-least c =
    let road = c.args.under.now.road in
    let p = c.args.from in
    let q = c.args.to in
    let d : ℕ = c.args.ends.0 in
    let at = c.stands_for-vertex.ensures.value ∙ ap (λ (n : NetworkView). stands n d) c.network.ensures in
    let here : IsLeastOf (IsAlong road.weights p q (stands road.network d)) c.in_ok-alone.alone =
    subst (λ (v : ℕ). IsLeastOf (IsAlong road.weights p q v) c.in_ok-alone.alone) at
    (subst (λ (w : Weighting WeightDurLen). IsLeastOf (IsAlong w p q c.stands_for-vertex.result) c.in_ok-alone.alone) c.base-base.ensures.value c.in_ok-alone.ensures.least) in
    least-same (IsAlong road.weights p q (stands road.network d)) (IsAlongBetween road p q d c.args.ends.1) (λ walk x a. (a, c.if-ends.false)) (λ walk x a. a.0) c.in_ok-alone.alone here
