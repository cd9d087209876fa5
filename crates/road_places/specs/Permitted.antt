-- Permitted walks between two places. A vertex is a road segment in one direction, an arc of the graph of the
-- turns is a permitted turn from one onto another; a vertex is open where it may be driven along. A walk is a
-- list of open vertices, and may pass its ends again. All this is edge-based routing as OSRM has it; the
-- costs of parts of a segment are this project's rule.
use Rattle.std.specs.Prelude.{◌≡◌, ℕ, ◌≤◌, ◌⊎◌, List, [], ◌∷◌}
use Rattle.road_base.specs.declared.segments.Place.{Place}
use Rattle.search_graph.specs.declared.costs.WeightDurLen.{WeightDurLen}
use Rattle.search_graph.specs.declared.ends.Start.{Start}
use Rattle.search_graph.specs.declared.ends.Target.{Target}
use Rattle.search_graph.specs.Digraph.{Weighting, IsOpen}
use Rattle.search_graph.specs.RoadCosts.{road_cost_ops}
use Rattle.search_graph.specs.Walks.{IsBetween}
use Rattle.edge_graph.specs.NetworkView.{turn_graph}
use Rattle.road_places.specs.Places.{IsDirection, parts_along, before}
use Rattle.metric_make.specs.RoadMetric.{RoadMetric}
use Rattle.via_paths.specs.Forbidden.{IsFree}

-- `walk` is the open vertex v alone, a direction of both places' segment on which p lies no farther on than
-- q; it costs what the part between the two costs: with what lies before p, that is what lies before q
pub record IsAlong (w : Weighting WeightDurLen) (p q : Place) (v : ℕ) (walk : List ℕ) (d : WeightDurLen) : Type 0 where
  pub cost : WeightDurLen
  pub is_open : IsOpen w v cost
  pub begins : IsDirection p.segment v
  pub ends : IsDirection q.segment v
  pub ahead : parts_along p v ≤ parts_along q v
  pub is_walk : walk ≡ v ∷ []
  pub is_cost : before cost (parts_along q v) ≡ road_cost_ops.plus (before cost (parts_along p v)) d

-- `walk` is one vertex alone
abbrev pub IsAlongOne : Weighting WeightDurLen → Place → Place → List ℕ → WeightDurLen → Type 0
IsAlongOne w p q walk d = (v : ℕ) × IsAlong w p q v walk d

-- a walk starts at p along vertex v: what is left of v behind p is paid, which with what lies before p is the whole
pub record IsStartAlong (w : Weighting WeightDurLen) (p : Place) (v : ℕ) (s : Start WeightDurLen) : Type 0 where
  pub cost : WeightDurLen
  pub is_open : IsOpen w v cost
  pub is_vertex : s.vertex ≡ v
  pub is_cost : cost ≡ road_cost_ops.plus (before cost (parts_along p v)) s.cost

-- a walk ends at q along vertex v: what lies of v before q is paid
pub record IsTargetAlong (w : Weighting WeightDurLen) (q : Place) (v : ℕ) (t : Target WeightDurLen) : Type 0 where
  pub cost : WeightDurLen
  pub is_open : IsOpen w v cost
  pub is_vertex : t.vertex ≡ v
  pub is_cost : t.cost ≡ before cost (parts_along q v)

-- a walk starts at p, along a direction of its segment
abbrev pub IsStart : Weighting WeightDurLen → Place → Start WeightDurLen → Type 0
IsStart w p s = (v : ℕ) × IsDirection p.segment v × IsStartAlong w p v s

-- a walk ends at q, along a direction of its segment
abbrev pub IsTarget : Weighting WeightDurLen → Place → Target WeightDurLen → Type 0
IsTarget w q t = (v : ℕ) × IsDirection q.segment v × IsTargetAlong w q v t

-- `walk` is two or more open vertices, from a direction of p's segment by permitted turns to a direction of
-- q's, along which no forbidden sequence runs; it costs what is left of the first behind p, all turns, the whole of the
-- vertices in the middle, and what lies of the last before q
pub record IsByTurns (road : RoadMetric) (p q : Place) (walk : List ℕ) (d : WeightDurLen) : Type 0 where
  pub first : Start WeightDurLen
  pub last : Target WeightDurLen
  pub begins : IsStart road.weights p first
  pub ends : IsTarget road.weights q last
  pub runs : IsBetween road_cost_ops (turn_graph road.network) road.weights (first ∷ []) last walk d
  pub free : IsFree road.network.forbidden walk

-- `walk` is a permitted walk from p to q and costs d
abbrev pub IsPermitted : RoadMetric → Place → Place → List ℕ → WeightDurLen → Type 0
IsPermitted road p q walk d = IsAlongOne road.weights p q walk d ⊎ IsByTurns road p q walk d
