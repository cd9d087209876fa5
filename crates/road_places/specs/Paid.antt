-- What a walk from a place to another pays at each of its vertices, and what it pays at each of its turns (this
-- project's rule). With the turns the entries for the vertices add up to what the walk costs.
use Rattle.std.specs.Prelude.{◌≡◌, ℕ, ◌-◌, Option, None, List, [], ◌∷◌, drop, unwrap_or}
use Rattle.std.specs.List.{AllZip, slice_get, zip}
use Rattle.road_base.specs.declared.segments.Place.{Place}
use Rattle.search_graph.specs.declared.costs.WeightDurLen.{WeightDurLen}
use Rattle.search_graph.specs.Digraph.{Weighting, HasArc}
use Rattle.search_graph.specs.RoadCosts.{road_cost_ops}
use Rattle.edge_graph.specs.NetworkView.{turn_graph}
use Rattle.road_places.specs.Places.{before, parts_along}
use Rattle.metric_make.specs.RoadMetric.{RoadMetric}

-- what vertex v costs; nothing where it is closed or there is none, which no permitted walk meets
abbrev pub cost_on : Weighting WeightDurLen → ℕ → WeightDurLen
cost_on w v = unwrap_or (unwrap_or (slice_get w.vertex v) None) road_cost_ops.zero

-- what is left of a cost when a part of it is taken away
abbrev pub rest_of : WeightDurLen → WeightDurLen → WeightDurLen
rest_of whole part = record { weight = whole.weight - part.weight; duration = whole.duration - part.duration; length = whole.length - part.length }

-- what lies of vertex v before the place q along it
abbrev pub paid_before : Weighting WeightDurLen → Place → ℕ → WeightDurLen
paid_before w q v = before (cost_on w v) (parts_along q v)

-- what is left of it behind the place p
abbrev pub paid_behind : Weighting WeightDurLen → Place → ℕ → WeightDurLen
paid_behind w p v = rest_of (cost_on w v) (paid_before w p v)

-- what lies of it between p and q
abbrev pub paid_between : Weighting WeightDurLen → Place → Place → ℕ → WeightDurLen
paid_between w p q v = rest_of (paid_before w q v) (paid_before w p v)

-- an entry for each vertex from v on: the whole of it, but of the last what lies before q
abbrev pub paid_to : Weighting WeightDurLen → Place → ℕ → List ℕ → List WeightDurLen
paid_to w q v [] = paid_before w q v ∷ []
paid_to w q v (u ∷ more) = cost_on w v ∷ paid_to w q u more

-- an entry for each vertex of a walk from p to q: of one vertex alone what lies between the two, else of the
-- first what is left behind p, the whole of those in the middle, and of the last what lies before q
abbrev pub paid_along : Weighting WeightDurLen → Place → Place → List ℕ → List WeightDurLen
paid_along w p q [] = []
paid_along w p q (v ∷ []) = paid_between w p q v ∷ []
paid_along w p q (v ∷ u ∷ more) = paid_behind w p v ∷ paid_to w q u more

-- all costs of a list together
abbrev pub total_of : List WeightDurLen → WeightDurLen
total_of [] = road_cost_ops.zero
total_of (cost ∷ costs) = road_cost_ops.plus cost (total_of costs)

-- each vertex of a walk with the next
abbrev pub steps_of : List ℕ → List (ℕ × ℕ)
steps_of walk = zip walk (drop 1 walk)

-- a turn leads from the first of two vertices to the second, and costs so much
abbrev pub IsTurnCosting : RoadMetric → ℕ × ℕ → WeightDurLen → Type 0
IsTurnCosting road step cost = HasArc (turn_graph road.network) road.weights step.0 step.1 cost

-- a walk pays these costs at its turns, one from each vertex to the next
abbrev pub AreTurnsAlong : RoadMetric → List ℕ → List WeightDurLen → Type 0
AreTurnsAlong road walk costs = AllZip (IsTurnCosting road) (steps_of walk) costs

-- what is paid at the vertices of a walk, and at its turns, comes to d
pub record AddUpTo (road : RoadMetric) (walk : List ℕ) (paid : List WeightDurLen) (d : WeightDurLen) : Type 0 where
  pub turns : List WeightDurLen
  pub are_turns : AreTurnsAlong road walk turns
  pub is_sum : d ≡ road_cost_ops.plus (total_of paid) (total_of turns)
