-- Laws of avoiding: what is open to those who avoid a set costs them what it costs all others, and a copy is open where
-- its vertex is. So weights that are small stay small, and are a metric of their network.
use Rattle.std.proofs.Common.{◌≡◌, ℕ, zero, suc, ◌*◌, ◌≤◌, Bool, true, false, cond, List, [], ◌∷◌, length, Option, Some, None, All, refl, ap, arith, ◌∙◌}
use Rattle.std.specs.List.{slice_get}
use Rattle.std.specs.Option.{ForSome}
use Rattle.std.proofs.lemmas.List.Elements.{All-cons, All-head, All-nil, All-tail}
use Rattle.std.proofs.lemmas.Option.{none-some}
use Rattle.search_graph.specs.declared.costs.WeightDurLen.{WeightDurLen}
use Rattle.search_graph.specs.Digraph.{Weighting}
use Rattle.search_graph.specs.RoadCosts.{road_cost_laws, road_cost_ops}
use Rattle.search_graph.specs.Weighted.{AreSmall}
use Rattle.search_graph.specs.WeightLaws.{small_is_weighting}
use Rattle.edge_graph.specs.GraphLaws.{segments-in-graph}
use Rattle.edge_graph.specs.NetworkView.{NetworkView, graph_of, vertices_of}
use Rattle.edge_graph.specs.Sound.{IsSoundNetwork}
use Rattle.road_segments.specs.Laws.{length-vertices}
use Rattle.road_segments.specs.Vertex.{Vertex}
use Rattle.metric_make.specs.Avoiding.{avoided, avoided_costs, is_avoided, set_at}
use Rattle.metric_make.specs.CopyLaws.{All-with_copies, length-with_copies, open-with_copies, vertices-alike}
use Rattle.metric_make.specs.MetricOf.{AreAlike, AreWithinUnit, IsMetricOn, IsShort}

-- what is open is open at its cost
cost-open : (closed : Bool) (cost : Option WeightDurLen) (x : WeightDurLen) → cond closed None cost ≡ Some x → cost ≡ Some x
cost-open true cost x e = absurd (none-some x e)
cost-open false cost x e = e

cost-holds : (P : Option WeightDurLen → Type 0) (closed : Bool) (cost : Option WeightDurLen) → P None → P cost → P (cond closed None cost)
cost-holds P true cost none h = none
cost-holds P false cost none h = h

module _ (set : List (List ℕ)) where
  -- there are as many costs as vertices of the network
  pub length-avoided_costs : (vs : List Vertex) (costs : List (Option WeightDurLen)) → length vs ≤ length costs → length (avoided_costs set vs costs) ≡ length vs
  length-avoided_costs [] costs many = refl
  length-avoided_costs (v ∷ vs) [] many = absurd (omega (arith, many))
  length-avoided_costs (v ∷ vs) (cost ∷ costs) many = ap suc (length-avoided_costs vs costs (omega (arith, many)))

  -- a vertex that is open costs what it did
  pub open-avoided_costs : (vs : List Vertex) (costs : List (Option WeightDurLen)) (k : ℕ) (x : WeightDurLen) → slice_get (avoided_costs set vs costs) k ≡ Some (Some x) → slice_get costs k ≡ Some (Some x)
  open-avoided_costs [] costs k x e = cc
  open-avoided_costs (v ∷ vs) [] k x e = cc
  open-avoided_costs (v ∷ vs) (cost ∷ costs) zero x e = ap Some (cost-open (is_avoided set v) cost x (let same : cond (is_avoided set v) None cost ≡ Some x = cc in same))
  open-avoided_costs (v ∷ vs) (cost ∷ costs) (suc k) x e = open-avoided_costs vs costs k x e

  -- what holds of each cost, and of none, still does
  pub All-avoided_costs : (P : Option WeightDurLen → Type 0) → P None → (vs : List Vertex) (costs : List (Option WeightDurLen)) → All P costs → All P (avoided_costs set vs costs)
  All-avoided_costs P none [] costs h = All-nil P
  All-avoided_costs P none (v ∷ vs) [] h = All-nil P
  All-avoided_costs P none (v ∷ vs) (cost ∷ costs) h =
      All-cons P _ (avoided_costs set vs costs) (cost-holds P (is_avoided set v) cost none (All-head P cost costs h)) (All-avoided_costs P none vs costs (All-tail P cost costs h))

-- each vertex of the network still has its cost, where there are as many as the searched graph has vertices
pub length-avoided : (network : NetworkView) (set : List (List ℕ)) (costs : List (Option WeightDurLen)) → length costs ≡ (graph_of network).vertices → length (avoided_costs set (vertices_of network) costs) ≡ 2 * length network.segments
length-avoided network set costs many =
    length-avoided_costs set (vertices_of network) costs (omega (arith, many, segments-in-graph network, length-vertices network.segments)) ∙ length-vertices network.segments

-- small weights are small for those who avoid a set
pub avoided-small : (network : NetworkView) (set : Option ℕ) (w : Weighting WeightDurLen) → AreSmall road_cost_ops (graph_of network) w → AreSmall road_cost_ops (graph_of network) (avoided network set w)
avoided-small network None w small = small
avoided-small network (Some set) w small = record {
  few = small.few;
  vertices = length-with_copies network (avoided_costs (set_at network.profile set) (vertices_of network) w.vertex) (length-avoided network (set_at network.profile set) w.vertex small.vertices);
  arcs = small.arcs;
  vertex_unit = λ v x o.
      let there = open-with_copies network (avoided_costs (set_at network.profile set) (vertices_of network) w.vertex) v x o in
      small.vertex_unit there.0 x (open-avoided_costs (set_at network.profile set) (vertices_of network) w.vertex there.0 x there.1);
  arc_unit = small.arc_unit;
}

-- weights that are alike for all that stands for one vertex or turn are so for those who avoid a set
pub avoided-alike : (network : NetworkView) → IsSoundNetwork network → (set : Option ℕ) (w : Weighting WeightDurLen) → length w.vertex ≡ (graph_of network).vertices → AreAlike network w → AreAlike network (avoided network set w)
avoided-alike network sound None w many alike = alike
avoided-alike network sound (Some set) w many alike = record {
  vertex = vertices-alike network sound (avoided_costs (set_at network.profile set) (vertices_of network) w.vertex) (length-avoided network (set_at network.profile set) w.vertex many);
  arc = alike.arc;
}

-- and a metric of the network
pub avoided-on : (network : NetworkView) → IsSoundNetwork network → (set : Option ℕ) (w : Weighting WeightDurLen) → AreSmall road_cost_ops (graph_of network) w → AreAlike network w → IsMetricOn network (avoided network set w)
avoided-on network sound set w small alike = record {
  weighting = small_is_weighting road_cost_laws (graph_of network) (avoided network set w) (avoided-small network set w small);
  alike = avoided-alike network sound set w small.vertices alike;
}

-- each cost is within one unit as before
pub avoided-within_unit : (network : NetworkView) (set : Option ℕ) (w : Weighting WeightDurLen) → AreWithinUnit w → AreWithinUnit (avoided network set w)
avoided-within_unit network None w h = h
avoided-within_unit network (Some set) w h = record {
  vertex =
      All-with_copies network (λ o. ForSome o (λ x. road_cost_ops.units x 1)) (λ x e. absurd (none-some x e)) (avoided_costs (set_at network.profile set) (vertices_of network) w.vertex)
      (All-avoided_costs (set_at network.profile set) (λ o. ForSome o (λ x. road_cost_ops.units x 1)) (λ x e. absurd (none-some x e)) (vertices_of network) w.vertex h.vertex);
  arc = h.arc;
  short =
      All-with_copies network (λ o. ForSome o IsShort) (λ x e. absurd (none-some x e)) (avoided_costs (set_at network.profile set) (vertices_of network) w.vertex)
      (All-avoided_costs (set_at network.profile set) (λ o. ForSome o IsShort) (λ x e. absurd (none-some x e)) (vertices_of network) w.vertex h.short);
}
