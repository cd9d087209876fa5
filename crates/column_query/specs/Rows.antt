-- For the functions of this crate alone: what a row goes over and stands on, and how the best of several ways is found.
use Rattle.std.specs.Prelude.{◌≡◌, ℕ, ◌<◌, ◌≤◌, ◌⊎◌, List, All, length, Option, Some, None, MatchOption}
use Rattle.std.specs.List.{Contains}
use Rattle.search_graph.specs.declared.ends.Start.{Start}
use Rattle.search_graph.specs.Costs.{CostOps, NoDearer}
use Rattle.search_graph.specs.Digraph.{Weighting}
use Rattle.search_graph.specs.Weighted.{AreSmall}
use Rattle.step_search.specs.Spaces.{Space}
use Rattle.step_search.specs.Paths.{IsLeastPathCost}
use Rattle.cell_frame.specs.Borders.{Framed, IsFramed}
use Rattle.cell_frame.specs.Cliqued.{AreExact, CliqueLists}
use Rattle.cell_frame.specs.Free.{free_level}
use Rattle.cell_frame.specs.PartSpace.{part_space, IsLawful}

-- the parts of the starts' vertices, with what they cost inside
abbrev pub row_space : {C : Type 0} → CostOps C → Framed → Weighting C → List ℕ → Space C
row_space ops f w vertices = part_space ops f w (λ v. Unit {0}) (free_level f.cells vertices)

-- what it stands on: exact cliques of small weights, parts that make a lawful cut, and starts, of which each is alone
pub record IsReady {C : Type 0} (ops : CostOps C) (f : Framed) (w : Weighting C) (cliques : CliqueLists C) (vertices : List ℕ) (starts : List (Start C)) : Type 0 where
  pub framed : IsFramed f
  pub small : AreSmall ops f.graph w
  pub exact : AreExact ops f w cliques (length f.cells.levels)
  pub lawful : IsLawful ops f w (λ v. Unit {0}) (free_level f.cells vertices)
  pub high : (v : ℕ) → free_level f.cells vertices v ≤ length f.cells.levels
  pub inside : All (λ v. v < f.graph.vertices) vertices
  pub alone : (v : ℕ) → Contains vertices v → free_level f.cells vertices v ≡ 0
  pub starts_in : (s : Start C) → Contains starts s → Contains vertices s.vertex
  pub starts_below : (s : Start C) → Contains starts s → s.vertex < f.graph.vertices
  pub starts_unit : (s : Start C) → Contains starts s → ops.units s.cost 1

-- `best` is a cost, and no dearer than d
abbrev pub IsAtMost : {C : Type 0} → CostOps C → Option C → C → Type 0
IsAtMost ops best d = MatchOption best ⊥ (λ b. NoDearer ops b d)

-- of two costs the lesser, where there are any
pub record IsLesser {C : Type 0} (ops : CostOps C) (a b lesser : Option C) : Type 0 where
  pub one : (lesser ≡ a) ⊎ (lesser ≡ b)
  pub first : (d : C) → IsAtMost ops a d → IsAtMost ops lesser d
  pub second : (d : C) → IsAtMost ops b d → IsAtMost ops lesser d

-- a path's cost and what is paid on from there, where there is a path
abbrev pub paid_on : {C : Type 0} → CostOps C → Option C → C → Option C
paid_on ops None more = None
paid_on ops (Some r) more = Some (ops.plus r more)

-- what a cheapest path to e costs with what is paid on from there, or none where there is no path or no way on
abbrev pub IsByEntry : {C : Type 0} → CostOps C → Space C → List (Start C) → ℕ → Option C → Option C → Type 0
IsByEntry {C} ops S starts e more sum = MatchOption more (sum ≡ None) (λ m. (path : Option C) × IsLeastPathCost ops S starts e path × (sum ≡ paid_on ops path m))
