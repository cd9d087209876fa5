-- Private to this crate: what holds of a search under way, over its tree of walks, its labels and its queue.
use Rattle.std.specs.Prelude.{◌≡◌, ℕ, ◌+◌, ◌<◌, ◌^◌, ◌⊎◌, Bool, true, false, List, [], ◌∷◌, Option, Some, None}
use Rattle.std.specs.List.{Contains, slice_get}
use Rattle.search_graph.specs.Costs.{CostOps, NoDearer}
use Rattle.search_graph.specs.declared.ends.Start.{Start}
use Rattle.step_search.specs.Spaces.{Space, HasHop, StepBy}
use Rattle.search_labels.specs.Labelled.{LabelWithin}
use Rattle.search_labels.specs.declared.labels.Label.{Label}
use Rattle.step_search.specs.declared.dijkstra.Node.{Node}

-- the tree has a node of the vertex u at the cost c
abbrev pub HasNode : {C : Type 0} → List (Node C) → ℕ → C → Type 0
HasNode {C} tree u c = (i : ℕ) × (n : Node C) × (slice_get tree i ≡ Some n) × (n.vertex ≡ u) × (n.cost ≡ c)

-- the node n, at place i, stands at a start, or one hop behind an earlier node
abbrev pub ComesFrom : {C : Type 0} → CostOps C → Space C → List (Start C) → List (Node C) → ℕ → Node C → Option ℕ → Type 0
ComesFrom {C} ops S starts tree i n None = (s : Start C) × Contains starts s × S.May s.vertex × (n.vertex ≡ s.vertex) × (n.cost ≡ s.cost)
ComesFrom {C} ops S starts tree i n (Some j) = (j < i) × (m : Node C) × (slice_get tree j ≡ Some m) × StepBy ops S m.vertex n.vertex m.cost n.cost

-- the node n, at place i, stands for a walk from a start
pub record IsNode {C : Type 0} (ops : CostOps C) (S : Space C) (starts : List (Start C)) (tree : List (Node C)) (i : ℕ) (n : Node C) : Type 0 where
  pub vertex : n.vertex < S.vertices
  pub units : ops.units n.cost (2 ^ 30 + 2 ^ 29)
  pub from : ComesFrom ops S starts tree i n n.before

-- each node stands for a walk from a start
pub record IsTree {C : Type 0} (ops : CostOps C) (S : Space C) (starts : List (Start C)) (tree : List (Node C)) : Type 0 where
  pub nodes : (i : ℕ) (n : Node C) → slice_get tree i ≡ Some n → IsNode ops S starts tree i n

-- each node names an earlier one, or none
pub record IsBackward {C : Type 0} (tree : List (Node C)) : Type 0 where
  pub earlier : (i j : ℕ) (n : Node C) → slice_get tree i ≡ Some n → n.before ≡ Some j → j < i

-- the vertices from a node back to where its walk begins
abbrev pub IsTrail : {C : Type 0} → List (Node C) → Option ℕ → List ℕ → Type 0
IsTrail tree at [] = at ≡ None
IsTrail {C} tree at (v ∷ vs) = (i : ℕ) × (n : Node C) × (at ≡ Some i) × (slice_get tree i ≡ Some n) × (v ≡ n.vertex) × IsTrail tree n.before vs

-- the label l of v is one hop behind a node
abbrev pub IsLabel : {C : Type 0} → CostOps C → Space C → List (Node C) → ℕ → Label C → Type 0
IsLabel {C} ops S tree v l = (m : Node C) × (slice_get tree l.node ≡ Some m) × StepBy ops S m.vertex v m.cost l.cost

-- the labels of settled vertices cost no more than c
abbrev pub SettledWithin : {C : Type 0} → CostOps C → (ℕ → Option (Label C)) → (ℕ → Bool) → C → Type 0
SettledWithin {C} ops label settled c = (v : ℕ) (l : Label C) → settled v ≡ true → label v ≡ Some l → NoDearer ops l.cost c

-- where there was a label there is one that costs no more
pub record LabelsFall {C : Type 0} (ops : CostOps C) (old new : ℕ → Option (Label C)) : Type 0 where
  pub within : (v : ℕ) (l : Label C) → old v ≡ Some l → LabelWithin ops new v l.cost

-- each hop out of u, where c is paid, finds a label of its head that costs no more than what is paid there
pub record Expanded {C : Type 0} (ops : CostOps C) (S : Space C) (label : ℕ → Option (Label C)) (u : ℕ) (c : C) : Type 0 where
  pub finds : (v : ℕ) (s : C) → HasHop S u v s → LabelWithin ops label v (ops.plus c s)

-- Each label is one hop behind a node; a settled vertex has a node at its label's cost; any other labelled vertex
-- stands in the queue with its label, or has led on from a node at its label's cost; an entry of the queue is no cheaper
-- than its vertex's label, nor than any settled vertex's.
pub record IsFront {C : Type 0} (ops : CostOps C) (S : Space C) (tree : List (Node C)) (label : ℕ → Option (Label C)) (settled : ℕ → Bool) (queue : List (C × ℕ)) : Type 0 where
  pub labelled : (v : ℕ) (l : Label C) → label v ≡ Some l → IsLabel ops S tree v l
  pub in_tree : (v : ℕ) → settled v ≡ true → (l : Label C) × (label v ≡ Some l) × HasNode tree v l.cost
  pub queued : (v : ℕ) (l : Label C) → settled v ≡ false → label v ≡ Some l → Contains queue (l.cost, v) ⊎ HasNode tree v l.cost
  pub keys : (k : C) (v : ℕ) → Contains queue (k, v) → LabelWithin ops label v k
  pub ordered : (k : C) (v : ℕ) → Contains queue (k, v) → SettledWithin ops label settled k

-- each node is expanded
pub record NodesExpanded {C : Type 0} (ops : CostOps C) (S : Space C) (tree : List (Node C)) (label : ℕ → Option (Label C)) : Type 0 where
  pub each : (i : ℕ) (n : Node C) → slice_get tree i ≡ Some n → Expanded ops S label n.vertex n.cost

-- new is old and nodes behind it; each of those stands for a walk from one of these starts, or is one hop behind an
-- earlier node, and is expanded
pub record TreeGrows {C : Type 0} (ops : CostOps C) (S : Space C) (starts : List (Start C)) (label : ℕ → Option (Label C)) (old new : List (Node C)) : Type 0 where
  pub kept : (i : ℕ) (n : Node C) → slice_get old i ≡ Some n → slice_get new i ≡ Some n
  pub more : (i : ℕ) (n : Node C) → slice_get new i ≡ Some n → (slice_get old i ≡ Some n) ⊎ (IsNode ops S starts new i n × Expanded ops S label n.vertex n.cost)

-- each of these starts where a path may begin has a node
pub record StartsIn {C : Type 0} (S : Space C) (starts : List (Start C)) (tree : List (Node C)) : Type 0 where
  pub node : (s : Start C) → Contains starts s → S.May s.vertex → HasNode tree s.vertex s.cost

-- what is kept of each row bounds the labels of its heads
pub record AreBounds {C : Type 0} (ops : CostOps C) (S : Space C) (label : ℕ → Option (Label C)) (rows : ℕ × ℕ → ℕ → Option C) : Type 0 where
  pub each : (u j w : ℕ) (d : C) → slice_get (S.heads u) j ≡ Some w → rows (S.row u) j ≡ Some d → LabelWithin ops label w d
