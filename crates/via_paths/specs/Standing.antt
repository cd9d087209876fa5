-- What the walks of the graph with copies stand for.
use Rattle.std.specs.Prelude.{◌≡◌, ℕ, ◌<◌, List, [], ◌∷◌, ◌++◌, map, drop}
use Rattle.std.specs.List.{slice_get, All}
use Rattle.search_graph.specs.Costs.{CostOps}
use Rattle.search_graph.specs.Digraph.{Digraph, Weighting, IsArc}
use Rattle.search_graph.specs.declared.ends.Start.{Start}
use Rattle.search_graph.specs.declared.ends.Target.{Target}
use Rattle.search_graph.specs.Walks.{Walk, IsBetween}
use Rattle.via_paths.specs.Forbidden.{IsFree, IsFreeBehind}
use Rattle.via_paths.specs.Expansion.{IsStateOf}

-- Each vertex and each arc of h costs in x what the vertex and the arc that they stand for cost in w.
pub record IsCostedAlike {C : Type 0} (stands : ℕ → ℕ) (g : Digraph) (w : Weighting C) (h : Digraph) (x : Weighting C) : Type 0 where
  pub vertex : (q : ℕ) → q < h.vertices → slice_get x.vertex q ≡ slice_get w.vertex (stands q)
  pub arc : (i j p q : ℕ) → IsArc h i p q → IsArc g j (stands p) (stands q) → slice_get x.arc i ≡ slice_get w.arc j

-- a start at the vertex that its own stands for
abbrev pub start_for : {C : Type 0} → (ℕ → ℕ) → Start C → Start C
start_for stands s = record { vertex = stands s.vertex; cost = s.cost }

-- and a target
abbrev pub target_for : {C : Type 0} → (ℕ → ℕ) → Target C → Target C
target_for stands t = record { vertex = stands t.vertex; cost = t.cost }

-- Walks of h from an ordinary vertex stand for the walks of g in which no sequence runs: each for one of these, of the
-- same cost, and each of these is stood for by exactly one.
pub record StandForFree {C : Type 0} (ops : CostOps C) (n : ℕ) (sequences : List (List ℕ)) (stands : ℕ → ℕ) (g : Digraph) (w : Weighting C) (h : Digraph) (x : Weighting C) : Type 0 where
  pub stand : (u z : ℕ) (c d : C) (vs : List ℕ) → u < n → Walk ops h x u c vs z d →
      Walk ops g w u c (map stands vs) (stands z) d × IsFree sequences (u ∷ map stands vs)
  pub stood_for : (u z : ℕ) (c d : C) (vs : List ℕ) → u < n → Walk ops g w u c vs z d → IsFree sequences (u ∷ vs) →
      (ws : List ℕ) × (y : ℕ) × Walk ops h x u c ws y d × (map stands ws ≡ vs) × (stands y ≡ z)
  pub once : (u y z : ℕ) (b c d e : C) (vs ws : List ℕ) → u < n → Walk ops h x u b vs y d → Walk ops h x u c ws z e →
      map stands vs ≡ map stands ws → (vs ≡ ws) × (y ≡ z)

-- The same from any state: behind a walk so far, the walks of h from its state stand for the walks of g that go on from
-- its last vertex and along which no sequence ends.
pub record StandBehind {C : Type 0} (ops : CostOps C) (n : ℕ) (sequences copies : List (List ℕ)) (stands : ℕ → ℕ) (g : Digraph) (w : Weighting C) (h : Digraph) (x : Weighting C) : Type 0 where
  pub stand : (before vs : List ℕ) (q z : ℕ) (c d : C) → IsStateOf n copies before q → Walk ops h x q c vs z d →
      Walk ops g w (stands q) c (map stands vs) (stands z) d × IsFreeBehind sequences before (map stands vs) × IsStateOf n copies (before ++ map stands vs) z
  pub stood_for : (before vs : List ℕ) (q z : ℕ) (c d : C) → IsStateOf n copies before q → Walk ops g w (stands q) c vs z d → IsFreeBehind sequences before vs →
      (ws : List ℕ) × (y : ℕ) × Walk ops h x q c ws y d × (map stands ws ≡ vs) × (stands y ≡ z)
  pub once : (before : List ℕ) (q y z : ℕ) (b c d e : C) (vs ws : List ℕ) → IsStateOf n copies before q → Walk ops h x q b vs y d → Walk ops h x q c ws z e →
      map stands vs ≡ map stands ws → (vs ≡ ws) × (y ≡ z)

-- The same of walks between starts, which are ordinary vertices, and a target: in the graph with copies its vertex may
-- be any that stands for the target's.
pub record EndsStandForFree {C : Type 0} (ops : CostOps C) (n : ℕ) (sequences : List (List ℕ)) (stands : ℕ → ℕ) (g : Digraph) (w : Weighting C) (h : Digraph) (x : Weighting C) : Type 0 where
  pub stand : (starts : List (Start C)) (t : Target C) (walk : List ℕ) (d : C) → All (λ s. s.vertex < n) starts → IsBetween ops h x starts t walk d →
      IsBetween ops g w starts (target_for stands t) (map stands walk) d × IsFree sequences (map stands walk)
  pub stood_for : (starts : List (Start C)) (t : Target C) (walk : List ℕ) (d : C) → All (λ s. s.vertex < n) starts → IsBetween ops g w starts t walk d → IsFree sequences walk →
      (v : ℕ) × (other : List ℕ) × (v < h.vertices) × (stands v ≡ t.vertex) × IsBetween ops h x starts (record { vertex = v; cost = t.cost }) other d × (map stands other ≡ walk)

-- And from one start, which is the state of a walk so far: what comes behind its vertex goes on from that walk.
pub record EndsStandBehind {C : Type 0} (ops : CostOps C) (n : ℕ) (sequences copies : List (List ℕ)) (stands : ℕ → ℕ) (g : Digraph) (w : Weighting C) (h : Digraph) (x : Weighting C) : Type 0 where
  pub stand : (before walk : List ℕ) (s : Start C) (t : Target C) (d : C) → IsStateOf n copies before s.vertex → IsBetween ops h x (s ∷ []) t walk d →
      IsBetween ops g w (start_for stands s ∷ []) (target_for stands t) (map stands walk) d
      × IsFreeBehind sequences before (drop 1 (map stands walk)) × IsStateOf n copies (before ++ drop 1 (map stands walk)) t.vertex
  pub stood_for : (before walk : List ℕ) (s : Start C) (t : Target C) (d : C) → IsStateOf n copies before s.vertex → IsBetween ops g w (start_for stands s ∷ []) t walk d →
      IsFreeBehind sequences before (drop 1 walk) →
      (v : ℕ) × (other : List ℕ) × (v < h.vertices) × (stands v ≡ t.vertex) × IsBetween ops h x (s ∷ []) (record { vertex = v; cost = t.cost }) other d × (map stands other ≡ walk)
