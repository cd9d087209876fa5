-- How far a search is, to those who call its parts.
use Rattle.std.specs.Prelude.{ℕ, List, MatchOption}
use Rattle.search_graph.specs.Costs.{CostOps}
use Rattle.search_graph.specs.declared.ends.Start.{Start}
use Rattle.step_search.specs.Spaces.{Space, IsSpace}
use Rattle.step_search.specs.Paths.{AreStarts, IsBeyond, NoPathTo}
use Rattle.search_labels.specs.Labelled.{label_of, settled_of}
use Rattle.row_labels.specs.Rowed.{value_of}
use Rattle.step_search.specs.Progress.{IsTree, IsFront, NodesExpanded, StartsIn, AreBounds}
use Rattle.step_search.specs.declared.dijkstra.Search.{Search}

-- a search from `starts` that stands between two of its steps, and has begun at those of `begun`
pub record IsBegun {C : Type 0} (ops : CostOps C) (S : Space C) (starts begun : List (Start C)) (search : Search C) : Type 0 where
  pub space : IsSpace ops S
  pub fit : AreStarts ops S starts
  pub tree : IsTree ops S starts search.tree.items
  pub front : IsFront ops S search.tree.items (label_of search.labels) (settled_of search.labels) search.queue
  pub expanded : NodesExpanded ops S search.tree.items (label_of search.labels)
  pub starts_in : StartsIn S begun search.tree.items
  pub rows : AreBounds ops S (label_of search.labels) (value_of search.rows.rows)

-- a search that has begun at all its starts, and stands between two of its steps
abbrev pub IsUnderWay : {C : Type 0} → CostOps C → Space C → List (Start C) → Search C → Type 0
IsUnderWay ops S starts search = IsBegun ops S starts starts search

-- the label of the vertex costs no more than any path to it, and where it has none no path leads to it
abbrev pub IsDone : {C : Type 0} → CostOps C → Space C → List (Start C) → Search C → ℕ → Type 0
IsDone ops S starts search until = MatchOption (label_of search.labels until) (NoPathTo ops S starts until) (λ l. IsBeyond ops S starts until l.cost)
