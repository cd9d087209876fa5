-- For the functions of this crate alone: what a query goes over and stands on.
use Rattle.std.specs.Prelude.{◌≡◌, ℕ, ◌<◌, ◌≤◌, List, All, length}
use Rattle.std.specs.List.{Contains}
use Rattle.search_graph.specs.declared.ends.Start.{Start}
use Rattle.search_graph.specs.declared.ends.Target.{Target}
use Rattle.search_graph.specs.Costs.{CostOps}
use Rattle.search_graph.specs.Digraph.{Digraph, Weighting, IsOpen}
use Rattle.search_graph.specs.Walks.{IsLeastWalk}
use Rattle.search_graph.specs.Weighted.{AreSmall}
use Rattle.step_search.specs.Spaces.{Space}
use Rattle.cell_frame.specs.Borders.{Framed, IsFramed}
use Rattle.cell_frame.specs.Cliqued.{AreExact, CliqueLists}
use Rattle.cell_frame.specs.Free.{free_level}
use Rattle.cell_frame.specs.PartSpace.{part_space, IsLawful}

-- the parts of the terminals, with what they cost inside
abbrev pub query_space : {C : Type 0} → CostOps C → Framed → Weighting C → List ℕ → Space C
query_space ops f w terminals = part_space ops f w (λ v. Unit {0}) (free_level f.cells terminals)

-- what it stands on: exact cliques of small weights, parts that make a lawful cut, and starts that are terminals, each alone
pub record IsQuery {C : Type 0} (ops : CostOps C) (f : Framed) (w : Weighting C) (cliques : CliqueLists C) (terminals : List ℕ) (starts : List (Start C)) : Type 0 where
  pub framed : IsFramed f
  pub small : AreSmall ops f.graph w
  pub exact : AreExact ops f w cliques (length f.cells.levels)
  pub lawful : IsLawful ops f w (λ v. Unit {0}) (free_level f.cells terminals)
  pub high : (v : ℕ) → free_level f.cells terminals v ≤ length f.cells.levels
  pub inside : All (λ t. t < f.graph.vertices) terminals
  pub alone : (t : ℕ) → Contains terminals t → free_level f.cells terminals t ≡ 0
  pub starts_in : (s : Start C) → Contains starts s → Contains terminals s.vertex
  pub starts_unit : (s : Start C) → Contains starts s → ops.units s.cost 1

-- the target is a terminal, and what is paid there is within one unit
pub record IsAsked {C : Type 0} (ops : CostOps C) (f : Framed) (terminals : List ℕ) (t : Target C) : Type 0 where
  pub among : Contains terminals t.vertex
  pub below : t.vertex < f.graph.vertices
  pub unit : ops.units t.cost 1

-- d is what the cheapest walks to the target cost, and r is d with what its vertex costs in place of the target's cost
pub record IsCostWith {C : Type 0} (ops : CostOps C) (g : Digraph) (w : Weighting C) (starts : List (Start C)) (t : Target C) (r d : C) : Type 0 where
  pub vertex : C
  pub opens : IsOpen w t.vertex vertex
  pub rest : C
  pub valid : ops.valid rest
  pub before : r ≡ ops.plus vertex rest
  pub cost : d ≡ ops.plus rest t.cost
  pub walk : List ℕ
  pub least : IsLeastWalk ops g w starts t walk d
