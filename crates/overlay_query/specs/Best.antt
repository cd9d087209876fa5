-- For the functions of this crate alone: the best of several targets, while they are gone through.
use Rattle.std.specs.Prelude.{◌≡◌, ℕ, ◌<◌, ◌⊎◌, List, Option, Some, None, MatchOption, IfSome}
use Rattle.std.specs.List.{Contains, slice_get}
use Rattle.search_graph.specs.declared.ends.Start.{Start}
use Rattle.search_graph.specs.declared.ends.Target.{Target}
use Rattle.search_graph.specs.Costs.{CostOps, NoDearer}
use Rattle.search_graph.specs.Digraph.{Weighting}
use Rattle.search_graph.specs.Walks.{IsBetween, IsLeastWalk, NoneBetween}
use Rattle.cell_frame.specs.Borders.{Framed}
use Rattle.overlay_query.specs.Query.{IsAsked}
use Rattle.overlay_query.specs.declared.nearest.Priced.{Priced}

-- its target is a terminal, and its cost what a cheapest walk there costs
pub record IsPriced {C : Type 0} (ops : CostOps C) (f : Framed) (w : Weighting C) (terminals : List ℕ) (starts : List (Start C)) (p : Priced C) : Type 0 where
  pub asked : IsAsked ops f terminals p.target
  pub walk : List ℕ
  pub least : IsLeastWalk ops f.graph w starts p.target walk p.cost

-- no walk to the target t costs less than d
abbrev pub NoneBelow : {C : Type 0} → CostOps C → Framed → Weighting C → List (Start C) → Target C → C → Type 0
NoneBelow {C} ops f w starts t d = (walk : List ℕ) (e : C) → IsBetween ops f.graph w starts t walk e → NoDearer ops d e

-- there is a best so far, and no walk to the target t costs less
abbrev pub IsBehind : {C : Type 0} → CostOps C → Framed → Weighting C → List (Start C) → Option (Priced C) → Target C → Type 0
IsBehind ops f w starts best t = MatchOption best ⊥ (λ b. NoneBelow ops f w starts t b.cost)

-- `new` is the best of the best so far and the target t, or none where there is no walk to either
abbrev pub IsBetter : {C : Type 0} → CostOps C → Framed → Weighting C → List ℕ → List (Start C) → Option (Priced C) → Target C → Option (Priced C) → Type 0
IsBetter ops f w terminals starts old t new = MatchOption new
    ((old ≡ None) × NoneBetween ops f.graph w starts t)
    (λ n. ((old ≡ Some n) ⊎ (n.target ≡ t)) × IsPriced ops f w terminals starts n × NoneBelow ops f w starts t n.cost × IfSome old (λ o. NoDearer ops n.cost o.cost))

-- `least` is the one of both that costs less, or the best so far where neither does
abbrev pub IsLesser : {C : Type 0} → CostOps C → Option (Priced C) → Priced C → Priced C → Type 0
IsLesser ops best other least = ((best ≡ Some least) × NoDearer ops least.cost other.cost) ⊎ ((least ≡ other) × IfSome best (λ b. NoDearer ops other.cost b.cost))

-- the best of the first m targets, or none where there is no walk to any of them
abbrev pub IsBest : {C : Type 0} → CostOps C → Framed → Weighting C → List ℕ → List (Start C) → List (Target C) → ℕ → Option (Priced C) → Type 0
IsBest {C} ops f w terminals starts targets m best = MatchOption best
    ((k : ℕ) (t : Target C) → k < m → slice_get targets k ≡ Some t → NoneBetween ops f.graph w starts t)
    (λ b. Contains targets b.target × IsPriced ops f w terminals starts b × ((k : ℕ) (t : Target C) → k < m → slice_get targets k ≡ Some t → NoneBelow ops f w starts t b.cost))
