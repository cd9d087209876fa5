-- What follows of what walks pay: however a list of costs is cut, the sums of its parts add up; and what a
-- permitted walk pays at its vertices and turns comes to what it costs.
use Rattle.std.specs.Prelude.{◌≡◌, ℕ, ◌-◌, None, Option, List, [], ◌∷◌, ◌++◌, map, unwrap_or}
use Rattle.std.specs.List.{AllZip}
use Rattle.std.proofs.Common.{ap, inl, inr, refl, subst, sym, ◌∙◌}
use Rattle.std.proofs.Math.Nat.{add-sub_cancel_left}
use Rattle.list_lemmas.proofs.Singles.{only_one}
use Rattle.road_base.specs.declared.segments.Place.{Place}
use Rattle.search_graph.specs.declared.costs.WeightDurLen.{WeightDurLen}
use Rattle.search_graph.specs.declared.ends.Start.{Start}
use Rattle.search_graph.specs.declared.ends.Target.{Target}
use Rattle.search_graph.specs.Digraph.{HasArc, IsOpen, Weighting}
use Rattle.search_graph.specs.RoadCosts.{parts-same, road_cost_laws, road_cost_ops}
use Rattle.search_graph.specs.OrderLaws.{zero_plus}
use Rattle.search_graph.specs.Walks.{IsBetween, Walk}
use Rattle.edge_graph.specs.NetworkView.{turn_graph}
use Rattle.road_places.specs.Paid.{AddUpTo, AreTurnsAlong, IsTurnCosting, cost_on, paid_along, paid_before, paid_behind, paid_to, rest_of, steps_of, total_of}
use Rattle.road_places.specs.Permitted.{IsAlong, IsByTurns, IsPermitted, IsStartAlong, IsTargetAlong}
use Rattle.road_places.specs.Places.{before, parts_along}
use Rattle.metric_make.specs.RoadMetric.{RoadMetric}

-- sums may be regrouped
assoc : (a b c : WeightDurLen) → road_cost_ops.plus (road_cost_ops.plus a b) c ≡ road_cost_ops.plus a (road_cost_ops.plus b c)
assoc a b c = road_cost_laws.assoc a b c tt tt tt

comm : (a b : WeightDurLen) → road_cost_ops.plus a b ≡ road_cost_ops.plus b a
comm a b = road_cost_laws.comm a b tt tt

neutral : (a : WeightDurLen) → road_cost_ops.plus a road_cost_ops.zero ≡ a
neutral a = road_cost_laws.neutral a tt

middles_swapped : (a b c d : WeightDurLen) → road_cost_ops.plus (road_cost_ops.plus a b) (road_cost_ops.plus c d) ≡ road_cost_ops.plus (road_cost_ops.plus a c) (road_cost_ops.plus b d)
middles_swapped a b c d =
    assoc a b (road_cost_ops.plus c d) ∙ ap (road_cost_ops.plus a) (sym (assoc b c d) ∙ ap (λ x. road_cost_ops.plus x d) (comm b c) ∙ assoc c b d) ∙ sym (assoc a c (road_cost_ops.plus b d))

-- the sum of a list is that of its two parts, wherever it is cut
pub total_of-append : (xs ys : List WeightDurLen) → total_of (xs ++ ys) ≡ road_cost_ops.plus (total_of xs) (total_of ys)
total_of-append [] ys = sym (zero_plus road_cost_laws (total_of ys) tt)
total_of-append (x ∷ xs) ys = ap (road_cost_ops.plus x) (total_of-append xs ys) ∙ sym (assoc x (total_of xs) (total_of ys))

-- what is left of a sum without its first part is the second
pub rest_of-plus : (whole part rest : WeightDurLen) → whole ≡ road_cost_ops.plus part rest → rest_of whole part ≡ rest
rest_of-plus whole part rest e =
    ap (λ c. rest_of c part) e
    ∙ parts-same (add-sub_cancel_left part.weight rest.weight) (add-sub_cancel_left part.duration rest.duration) (add-sub_cancel_left part.length rest.length)

-- an open vertex costs what it is open for
pub cost_on-open : (w : Weighting WeightDurLen) (v : ℕ) (c : WeightDurLen) → IsOpen w v c → cost_on w v ≡ c
cost_on-open w v c h = ap (λ (o : Option (Option WeightDurLen)). unwrap_or (unwrap_or o None) road_cost_ops.zero) h

module _ (w : Weighting WeightDurLen) (q : Place) where
  -- the entries up to the last, and that of the last
  pub paid_to-append : (u : ℕ) (more : List ℕ) (t : ℕ) → paid_to w q u (more ++ t ∷ []) ≡ map (cost_on w) (u ∷ more) ++ paid_before w q t ∷ []
  paid_to-append u [] t = refl
  paid_to-append u (v ∷ more) t = ap (λ l. cost_on w u ∷ l) (paid_to-append v more t)

  -- the entries of a walk of two or more vertices
  pub paid_along-ends : (p : Place) (s : ℕ) (middle : List ℕ) (t : ℕ) → paid_along w p q (s ∷ (middle ++ t ∷ [])) ≡ paid_behind w p s ∷ (map (cost_on w) middle ++ paid_before w q t ∷ [])
  paid_along-ends p s [] t = refl
  paid_along-ends p s (u ∷ more) t = ap (λ l. paid_behind w p s ∷ l) (paid_to-append u more t)

  -- where a walk starts, what is left behind the place is paid
  paid_behind-start : (p : Place) (v : ℕ) (s : Start WeightDurLen) → IsStartAlong w p v s → paid_behind w p s.vertex ≡ s.cost
  paid_behind-start p v s h =
      ap (λ u. paid_behind w p u) h.is_vertex ∙ ap (λ c. rest_of c (before c (parts_along p v))) (cost_on-open w v h.cost h.is_open)
      ∙ rest_of-plus h.cost (before h.cost (parts_along p v)) s.cost h.is_cost

  -- where it ends, what lies before the place
  paid_before-target : (v : ℕ) (t : Target WeightDurLen) → IsTargetAlong w q v t → paid_before w q t.vertex ≡ t.cost
  paid_before-target v t h = ap (λ u. paid_before w q u) h.is_vertex ∙ ap (λ c. before c (parts_along q v)) (cost_on-open w v h.cost h.is_open) ∙ sym h.is_cost

-- the turns of a walk whose last one leads to t, and what it pays but for its ends
record ArePaid (road : RoadMetric) (u : ℕ) (vs : List ℕ) (t : ℕ) (c d : WeightDurLen) : Type 0 where
  turns : List WeightDurLen
  are_turns : AreTurnsAlong road (u ∷ (vs ++ t ∷ [])) turns
  is_sum : d ≡ road_cost_ops.plus c (road_cost_ops.plus (total_of (map (cost_on road.weights) vs)) (total_of turns))

module _ (road : RoadMetric) where
  step_sum : (c a x m n d e : WeightDurLen) → e ≡ road_cost_ops.plus c (road_cost_ops.plus a x) → d ≡ road_cost_ops.plus e (road_cost_ops.plus m n)
      → d ≡ road_cost_ops.plus c (road_cost_ops.plus (road_cost_ops.plus x m) (road_cost_ops.plus a n))
  step_sum c a x m n d e h k =
      k ∙ ap (λ y. road_cost_ops.plus y (road_cost_ops.plus m n)) h ∙ assoc c (road_cost_ops.plus a x) (road_cost_ops.plus m n)
      ∙ ap (road_cost_ops.plus c) (ap (λ y. road_cost_ops.plus y (road_cost_ops.plus m n)) (comm a x) ∙ middles_swapped x a m n)

  are_paid : (u z : ℕ) (c paid : WeightDurLen) (vs : List ℕ) (t : ℕ) (arc : WeightDurLen) → Walk road_cost_ops (turn_graph road.network) road.weights u c vs z paid
      → HasArc (turn_graph road.network) road.weights z t arc → ArePaid road u vs t c (road_cost_ops.plus paid arc)
  are_paid u z c paid [] t arc h joins = record {
    turns = arc ∷ [];
    are_turns = (subst (λ y. HasArc (turn_graph road.network) road.weights y t arc) h.0 joins, tt);
    is_sum = ap (λ y. road_cost_ops.plus y arc) h.1 ∙ ap (road_cost_ops.plus c) (sym (neutral arc) ∙ sym (zero_plus road_cost_laws (road_cost_ops.plus arc road_cost_ops.zero) tt));
  }
  are_paid u z c paid (v ∷ vs) t arc h joins =
      let rest = are_paid v z h.0 paid vs t arc h.2 joins in
      let move = h.1.1 in
      let cost : cost_on road.weights v ≡ move.1 = cost_on-open road.weights v move.1 move.3 in
      let here : h.0 ≡ road_cost_ops.plus c (road_cost_ops.plus move.0 (cost_on road.weights v)) = h.1.2 ∙ ap (road_cost_ops.plus c) (move.4 ∙ ap (road_cost_ops.plus move.0) (sym cost)) in
      record {
        turns = move.0 ∷ rest.turns;
        are_turns = (move.2, rest.are_turns);
        is_sum = step_sum c move.0 (cost_on road.weights v) (total_of (map (cost_on road.weights) vs)) (total_of rest.turns) (road_cost_ops.plus paid arc) h.0 here rest.is_sum;
      }

  module _ (p q : Place) where
    -- of one vertex alone what lies between the two places
    along_adds_up : (v : ℕ) (walk : List ℕ) (d : WeightDurLen) → IsAlong road.weights p q v walk d → AddUpTo road walk (paid_along road.weights p q walk) d
    along_adds_up v walk d h =
        let part : (c : WeightDurLen) → WeightDurLen = λ c. rest_of (before c (parts_along q v)) (before c (parts_along p v)) in
        let between : part (cost_on road.weights v) ≡ d = ap part (cost_on-open road.weights v h.cost h.is_open)
        ∙ rest_of-plus (before h.cost (parts_along q v)) (before h.cost (parts_along p v)) d h.is_cost in
        subst (λ l. AddUpTo road l (paid_along road.weights p q l) d) (sym h.is_walk) (record {
          turns = [];
          are_turns = tt;
          is_sum = sym (neutral (road_cost_ops.plus (part (cost_on road.weights v)) road_cost_ops.zero) ∙ neutral (part (cost_on road.weights v)) ∙ between);
        })

    -- the sum over all entries, from that over the middle ones
    whole_sum : (b m l n d paid : WeightDurLen) → paid ≡ road_cost_ops.plus b (road_cost_ops.plus m n) → d ≡ road_cost_ops.plus paid l
        → d ≡ road_cost_ops.plus (road_cost_ops.plus b (road_cost_ops.plus m (road_cost_ops.plus l road_cost_ops.zero))) n
    whole_sum b m l n d paid h k =
        k ∙ ap (λ x. road_cost_ops.plus x l) h ∙ assoc b (road_cost_ops.plus m n) l
        ∙ ap (road_cost_ops.plus b) (assoc m n l ∙ ap (road_cost_ops.plus m) (comm n l ∙ ap (λ x. road_cost_ops.plus x n) (sym (neutral l))) ∙ sym (assoc m (road_cost_ops.plus l road_cost_ops.zero) n))
        ∙ sym (assoc b (road_cost_ops.plus m (road_cost_ops.plus l road_cost_ops.zero)) n)

    -- of two or more what is left of the first, the middle ones, what lies of the last before the place, and the turns
    by_turns_adds_up : (walk : List ℕ) (d : WeightDurLen) → IsByTurns road p q walk d → AddUpTo road walk (paid_along road.weights p q walk) d
    by_turns_adds_up walk d h =
        let w : Weighting WeightDurLen = road.weights in
        let runs = h.runs in
        let same : runs.start ≡ h.first = only_one h.first runs.start runs.among in
        let s : ℕ = runs.start.vertex in
        let t : ℕ = h.last.vertex in
        let middle : List ℕ = runs.middle in
        let paid = are_paid s runs.last runs.start.cost runs.paid middle t runs.arc runs.goes runs.joins in
        let begins : paid_behind w p s ≡ runs.start.cost = ap (λ (x : Start WeightDurLen). paid_behind w p x.vertex) same ∙ paid_behind-start w q p h.begins.0 h.first h.begins.2 ∙ sym (ap (λ (x : Start WeightDurLen). x.cost) same) in
        let ends : paid_before w q t ≡ h.last.cost = paid_before-target w q h.ends.0 h.last h.ends.2 in
        let m : WeightDurLen = total_of (map (cost_on w) middle) in
        let b : WeightDurLen = paid_behind w p s in
        let l : WeightDurLen = paid_before w q t in
        let front : road_cost_ops.plus runs.paid runs.arc ≡ road_cost_ops.plus b (road_cost_ops.plus m (total_of paid.turns)) = paid.is_sum ∙ ap (λ x. road_cost_ops.plus x (road_cost_ops.plus m (total_of paid.turns))) (sym begins) in
        let all : d ≡ road_cost_ops.plus (road_cost_ops.plus runs.paid runs.arc) l = runs.is_cost ∙ ap (road_cost_ops.plus (road_cost_ops.plus runs.paid runs.arc)) (sym ends) in
        let parts : road_cost_ops.plus b (road_cost_ops.plus m (road_cost_ops.plus l road_cost_ops.zero)) ≡ total_of (paid_along w p q (s ∷ (middle ++ t ∷ []))) =
        ap (road_cost_ops.plus b) (sym (total_of-append (map (cost_on w) middle) (l ∷ []))) ∙ sym (ap total_of (paid_along-ends w q p s middle t)) in
        subst (λ (x : List ℕ). AddUpTo road x (paid_along w p q x) d) (sym runs.is_walk) (record {
          turns = paid.turns;
          are_turns = paid.are_turns;
          is_sum = whole_sum b m l (total_of paid.turns) d (road_cost_ops.plus runs.paid runs.arc) front all ∙ ap (λ x. road_cost_ops.plus x (total_of paid.turns)) parts;
        })

    -- what a permitted walk pays at its vertices and turns comes to what it costs
    pub permitted_adds_up : (walk : List ℕ) (d : WeightDurLen) → IsPermitted road p q walk d → AddUpTo road walk (paid_along road.weights p q walk) d
    permitted_adds_up walk d (inl alone) = along_adds_up alone.0 walk d alone.1
    permitted_adds_up walk d (inr by_turns) = by_turns_adds_up walk d by_turns
