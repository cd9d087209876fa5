-- Private to this crate: what the private functions of the search do, one step each.
use Rattle.std.specs.Prelude.{◌≡◌, ℕ, zero, suc, ◌+◌, ◌<◌, ◌^◌, ◌⊎◌, Bool, true, false, List, [], ◌∷◌, Option, Some, None}
use Rattle.std.specs.List.{Contains, slice_get}
use Rattle.std.specs.declared.cmp.Ordering.TheVariants.{Less}
use Rattle.search_graph.specs.Costs.{CostOps, NoDearer}
use Rattle.search_graph.specs.declared.ends.Start.{Start}
use Rattle.step_search.specs.Spaces.{Space, IsSpace}
use Rattle.search_queue.specs.Queued.{Adds, TakesLeast}
use Rattle.search_labels.specs.Labelled.{label_of, settled_of, changed, LabelWithin, Improves}
use Rattle.row_labels.specs.Rowed.{value_of}
use Rattle.step_search.specs.Progress.{HasNode, LabelsFall, SettledWithin, IsFront, TreeGrows}
use Rattle.search_labels.specs.declared.labels.Label.{Label}
use Rattle.step_search.specs.declared.dijkstra.Node.{Node}
use Rattle.step_search.specs.declared.dijkstra.Search.{Search}

-- no vertex is settled
abbrev pub NoneSettled : (ℕ → Bool) → Type 0
NoneSettled settled = (v : ℕ) → settled v ≡ false

-- a search that has nothing
pub record IsFresh {C : Type 0} (search : Search C) : Type 0 where
  pub tree : search.tree.items ≡ []
  pub unlabelled : (v : ℕ) → label_of search.labels v ≡ None
  pub unsettled : NoneSettled (settled_of search.labels)
  pub queue : search.queue ≡ []
  pub rows : (row : ℕ × ℕ) (j : ℕ) → value_of search.rows.rows row j ≡ None

-- the label l, offered to v, is put and queued where it improves
pub data Offers {C : Type 0} (ops : CostOps C) (old new : ℕ → Option (Label C)) (settled : ℕ → Bool) (before after : List (C × ℕ)) (v : ℕ) (l : Label C) : Type 0 where
  left : new ≡ old → after ≡ before → LabelWithin ops old v l.cost → Offers ops old new settled before after v l
  put : new ≡ changed old v (Some l) → Adds before after (l.cost, v) → settled v ≡ false → Improves ops old v l.cost → Offers ops old new settled before after v l

-- the node, at its place in the tree, is what the search is at work on
pub record IsAtWork {C : Type 0} (ops : CostOps C) (S : Space C) (search : Search C) (at : ℕ) (node : Node C) : Type 0 where
  pub space : IsSpace ops S
  pub front : IsFront ops S search.tree.items (label_of search.labels) (settled_of search.labels) search.queue
  pub here : slice_get search.tree.items at ≡ Some node
  pub vertex : node.vertex < S.vertices
  pub units : ops.units node.cost (2 ^ 30 + 2 ^ 29)
  pub within : SettledWithin ops (label_of search.labels) (settled_of search.labels) node.cost

-- only labels have fallen
pub record OnlyFalls {C : Type 0} (ops : CostOps C) (old new : Search C) : Type 0 where
  pub falls : LabelsFall ops (label_of old.labels) (label_of new.labels)
  pub settled : settled_of new.labels ≡ settled_of old.labels
  pub tree : new.tree.items ≡ old.tree.items

-- only labels have fallen, and the tree has grown by walks from these starts, or behind earlier nodes
pub record OnlyGrows {C : Type 0} (ops : CostOps C) (S : Space C) (starts : List (Start C)) (old new : Search C) : Type 0 where
  pub falls : LabelsFall ops (label_of old.labels) (label_of new.labels)
  pub settled : settled_of new.labels ≡ settled_of old.labels
  pub tree : TreeGrows ops S starts (label_of new.labels) old.tree.items new.tree.items

-- the entry of v at the key is passed over: v is settled, or has no label, or a cheaper one
abbrev pub IsPassed : {C : Type 0} → CostOps C → (ℕ → Option (Label C)) → (ℕ → Bool) → C → ℕ → Type 0
IsPassed {C} ops label settled key v = (settled v ≡ true) ⊎ ((label v ≡ None) ⊎ ((l : Label C) × (label v ≡ Some l) × (ops.cmp l.cost key ≡ Less)))

-- new is old without entries that are passed over
pub record Skips {C : Type 0} (ops : CostOps C) (label : ℕ → Option (Label C)) (settled : ℕ → Bool) (old new : List (C × ℕ)) : Type 0 where
  pub fewer : (x : C × ℕ) → Contains new x → Contains old x
  pub kept : (x : C × ℕ) (l : Label C) → Contains old x → settled x.1 ≡ false → label x.1 ≡ Some l → NoDearer ops x.0 l.cost → Contains new x

-- v, which has the label l and isn't settled, was taken from the queue with the least key, which is no dearer than l
pub record IsNearest {C : Type 0} (ops : CostOps C) (label : ℕ → Option (Label C)) (settled : ℕ → Bool) (old new : List (C × ℕ)) (v : ℕ) (l : Label C) : Type 0 where
  pub key : C
  pub before : List (C × ℕ)
  pub skips : Skips ops label settled old before
  pub takes : TakesLeast ops before new (key, v)
  pub at_key : NoDearer ops key l.cost
  pub unsettled : settled v ≡ false
  pub has : label v ≡ Some l

-- v was taken from the queue, as it was before, and is settled at its label l, beside those that were settled
pub record IsTaken {C : Type 0} (ops : CostOps C) (S : Space C) (search : Search C) (v : ℕ) (l : Label C) : Type 0 where
  pub space : IsSpace ops S
  pub before : List (C × ℕ)
  pub settled : ℕ → Bool
  pub front : IsFront ops S search.tree.items (label_of search.labels) settled before
  pub key : C
  pub takes : TakesLeast ops before search.queue (key, v)
  pub at_key : NoDearer ops key l.cost
  pub unsettled : settled v ≡ false
  pub settles : settled_of search.labels ≡ changed settled v true
  pub has : label_of search.labels v ≡ Some l
  pub units : ops.units l.cost (2 ^ 30)

-- the node of a vertex at its label
abbrev pub node_of : {C : Type 0} → ℕ → Label C → Node C
node_of v l = record { vertex = v; cost = l.cost; before = Some l.node }

-- the node of a start
abbrev pub start_node : {C : Type 0} → Start C → Node C
start_node s = record { vertex = s.vertex; cost = s.cost; before = None }

-- the search has begun at s: where a path may begin there, its node is in the tree
pub record Begins {C : Type 0} (ops : CostOps C) (S : Space C) (old new : Search C) (s : Start C) : Type 0 where
  pub grows : OnlyGrows ops S (s ∷ []) old new
  pub node : S.May s.vertex → HasNode new.tree.items s.vertex s.cost

-- one for a vertex that isn't settled
abbrev pub one_if_open : Bool → ℕ
one_if_open true = 0
one_if_open false = 1

-- how many of the first n vertices aren't settled
abbrev pub open_below : (ℕ → Bool) → ℕ → ℕ
open_below settled zero = 0
open_below settled (suc n) = one_if_open (settled n) + open_below settled n

-- fewer vertices of the space are open in new than in old
abbrev pub FewerOpen : {C : Type 0} → Space C → Search C → Search C → Type 0
FewerOpen S old new = open_below (settled_of new.labels) S.vertices < open_below (settled_of old.labels) S.vertices
