-- Where the vertices of a permitted walk lie: each is one of the network's, and has a cost.
use Rattle.std.proofs.Common.{◌≡◌, ℕ, ◌*◌, ◌<◌, ◌≤◌, inl, inr, List, [], ◌∷◌, ◌++◌, All, Some, arith, ap, length, length-append, subst, sym}
use Rattle.std.proofs.lemmas.List.Elements.{All-append, All-cons, All-nil}
use Rattle.std.proofs.lemmas.Option.{slice_get_within}
use Rattle.list_lemmas.proofs.Singles.{only_one}
use Rattle.road_base.specs.declared.segments.Place.{Place}
use Rattle.search_graph.specs.declared.costs.WeightDurLen.{WeightDurLen}
use Rattle.search_graph.specs.declared.ends.Start.{Start}
use Rattle.search_graph.specs.Digraph.{IsOpen}
use Rattle.search_graph.specs.RoadCosts.{road_cost_ops}
use Rattle.search_graph.specs.Faults.{AllInRange}
use Rattle.search_graph.specs.Walks.{Walk}
use Rattle.edge_graph.specs.NetworkView.{turn_graph}
use Rattle.road_places.specs.Permitted.{IsPermitted}
use Rattle.road_places.specs.Places.{IsDirection, IsPlaceOn, parts_along}
use Rattle.metric_make.specs.RoadMetric.{RoadMetric}

-- a direction of a segment is a vertex
direction-below : (s n v : ℕ) → s < n → IsDirection s v → v < 2 * n
direction-below s n v lt (inl e) = omega arith
direction-below s n v lt (inr e) = omega arith

module _ (road : RoadMetric) where
  -- v is a vertex of the network, and has a cost or is closed
  abbrev pub IsVertex : ℕ → Type 0
  IsVertex v = (v < 2 * length road.network.segments) × (v < length road.weights.vertex)

  open-vertex : (v : ℕ) (x : WeightDurLen) → v < 2 * length road.network.segments → IsOpen road.weights v x → IsVertex v
  open-vertex v x lt h = (lt, slice_get_within road.weights.vertex v (Some x) h)

  -- the vertices that arcs lead to
  walked : AllInRange (2 * length road.network.segments) road.network.turns → (u z : ℕ) (c d : WeightDurLen) (vs : List ℕ)
      → Walk road_cost_ops (turn_graph road.network) road.weights u c vs z d → All IsVertex vs
  walked range u z c d [] h = All-nil IsVertex
  walked range u z c d (v ∷ vs) h =
      let move = h.1.1 in
      let ends = range move.2.0 u v move.2.1 in
      All-cons IsVertex v vs (open-vertex v move.1 ends.1 move.3) (walked range v z h.0 d vs h.2)

  -- a permitted walk has a vertex at least
  pub some-vertex : (p q : Place) (walk : List ℕ) (d : WeightDurLen) → IsPermitted road p q walk d → 0 < length walk
  some-vertex p q walk d (inl alone) = omega (arith, ap length alone.1.is_walk)
  some-vertex p q walk d (inr h) = omega (arith, ap length h.runs.is_walk)

  module _ (p q : Place) (from : IsPlaceOn road.network p) (to : IsPlaceOn road.network q) (walk : List ℕ) (d : WeightDurLen) where
    -- each vertex of a permitted walk is a vertex
    pub vertices_of-walk : AllInRange (2 * length road.network.segments) road.network.turns → IsPermitted road p q walk d → All IsVertex walk
    vertices_of-walk range (inl alone) =
        let v = alone.0 in
        let h = alone.1 in
        let one : IsVertex v = open-vertex v h.cost (direction-below p.segment (length road.network.segments) v from.on_segment h.begins) h.is_open in
        subst (All IsVertex) (sym h.is_walk) (All-cons IsVertex v [] one (All-nil IsVertex))
    vertices_of-walk range (inr h) =
        let n = length road.network.segments in
        let runs = h.runs in
        let same : runs.start ≡ h.first = only_one h.first runs.start runs.among in
        let first_below : h.first.vertex < 2 * n = subst (λ (x : ℕ). x < 2 * n) (sym h.begins.2.is_vertex) (direction-below p.segment n h.begins.0 from.on_segment h.begins.1) in
        let start_below : runs.start.vertex < 2 * n = subst (λ (x : Start WeightDurLen). x.vertex < 2 * n) (sym same) first_below in
        let last_below : h.last.vertex < 2 * n = subst (λ (x : ℕ). x < 2 * n) (sym h.ends.2.is_vertex) (direction-below q.segment n h.ends.0 to.on_segment h.ends.1) in
        let start : IsVertex runs.start.vertex = open-vertex runs.start.vertex runs.start_open.0 start_below runs.start_open.1 in
        let last : IsVertex h.last.vertex = open-vertex h.last.vertex runs.target_open.0 last_below runs.target_open.1 in
        let middle : All IsVertex runs.middle = walked range runs.start.vertex runs.last runs.start.cost runs.paid runs.middle runs.goes in
        let behind : All IsVertex (runs.middle ++ h.last.vertex ∷ []) = All-append IsVertex runs.middle (h.last.vertex ∷ []) middle (All-cons IsVertex h.last.vertex [] last (All-nil IsVertex)) in
        subst (All IsVertex) (sym runs.is_walk) (All-cons IsVertex runs.start.vertex (runs.middle ++ h.last.vertex ∷ []) start behind)

    -- on one vertex alone the first place lies no farther on than the last
    pub ahead-alone : (v : ℕ) → IsPermitted road p q walk d → walk ≡ v ∷ [] → parts_along p v ≤ parts_along q v
    ahead-alone v (inl alone) e =
        let h = alone.1 in
        let walk_is : walk ≡ alone.0 ∷ [] = h.is_walk in
        let same : alone.0 ≡ v = cc in
        subst (λ (x : ℕ). parts_along p x ≤ parts_along q x) same h.ahead
    ahead-alone v (inr h) e =
        absurd (omega (arith, ap length e, ap length h.runs.is_walk, length-append h.runs.middle (h.last.vertex ∷ [])))
