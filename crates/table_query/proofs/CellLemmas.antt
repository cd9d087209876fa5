-- A cell from what cheapest walks to each of its targets cost.
use Rattle.std.proofs.Common.{◌≡◌, ◌++◌, ◌∷◌, [], inl, inr, List, Option, Some, None, arith, refl, subst}
use Rattle.std.specs.List.{AllZip, Contains}
use Rattle.std.proofs.lemmas.List.Elements.{Contains-push, Contains-push_cases}
use Rattle.std.proofs.lemmas.Option.{none-some, same_Some}
use Rattle.list_lemmas.proofs.Gets.{Contains_get, Contains_push, get_Contains}
use Rattle.search_graph.specs.declared.ends.Start.{Start}
use Rattle.search_graph.specs.declared.ends.Target.{Target}
use Rattle.search_graph.specs.Costs.{CostOps, CostLaws, NoDearer}
use Rattle.search_graph.specs.Digraph.{Weighting}
use Rattle.search_graph.specs.OrderLaws.{le_from_same, le_trans}
use Rattle.cell_frame.specs.Borders.{Framed}
use Rattle.overlay_query.specs.Answers.{IsLeastCost}
use Rattle.table_query.specs.LeastCosts.{IsLeastAmong}
use Rattle.table_query.specs.LesserLaws.{EitherOf, least-same}
use Rattle.table_query.specs.Tables.{CostsTo, IsCell}
use Rattle.table_query.proofs.JoinedLists.{all_zip-first_at, all_zip-second_at}

-- the cost d is one of these
abbrev pub IsOneOf : {C : Type 0} → List (Option C) → C → Type 0
IsOneOf costs d = Contains costs (Some d)

pub least-nil : {C : Type 0} (ops : CostOps C) → IsLeastAmong ops (IsOneOf []) None
least-nil ops = λ d h. omega (arith, h.1)

more-to : {C : Type 0} (costs : List (Option C)) (cost : Option C) (d : C) → EitherOf (IsOneOf costs) (λ e. cost ≡ Some e) d → IsOneOf (costs ++ cost ∷ []) d
more-to costs cost d h = elim h [ inl b ↦ Contains_push costs cost (Some d) b | inr e ↦ subst (λ x. Contains (costs ++ cost ∷ []) x) e (Contains-push costs cost) ]

more-from : {C : Type 0} (costs : List (Option C)) (cost : Option C) (d : C) → IsOneOf (costs ++ cost ∷ []) d → EitherOf (IsOneOf costs) (λ e. cost ≡ Some e) d
more-from costs cost d b = elim (Contains-push_cases costs cost (Some d) b) [ inl k ↦ inl k | inr e ↦ inr e ]

-- with one cost more
pub least-push : {C : Type 0} (ops : CostOps C) (costs : List (Option C)) (cost value : Option C) → IsLeastAmong ops (EitherOf (IsOneOf costs) (λ e. cost ≡ Some e)) value → IsLeastAmong ops (IsOneOf (costs ++ cost ∷ [])) value
least-push ops costs cost value h = least-same ops (EitherOf (IsOneOf costs) (λ e. cost ≡ Some e)) (IsOneOf (costs ++ cost ∷ [])) (more-to costs cost) (more-from costs cost) value h

module _ {C : Type 0} {ops : CostOps C} (laws : CostLaws ops) where
  pub least-one : (cost : Option C) → IsLeastAmong ops (λ e. cost ≡ Some e) cost
  least-one None = λ d e. none-some d e
  least-one (Some c) = (refl, λ d e. le_from_same laws c d (same_Some c d e))

  module _ (f : Framed) (w : Weighting C) (starts : List (Start C)) where
    -- a walk to a target has a cheapest one, whose cost is no dearer
    no-dearer : (t : Target C) (cost : Option C) (d : C) → IsLeastCost ops f w starts t cost → CostsTo ops f.graph w starts t d → (c : C) × (cost ≡ Some c) × NoDearer ops c d
    no-dearer t None d h k = absurd (h k.0 d k.1)
    no-dearer t (Some c) d h k = (c, refl, h.1.least k.0 d k.1)

    among : (targets : List (Target C)) (costs : List (Option C)) → AllZip (IsLeastCost ops f w starts) targets costs → (t : Target C) (d : C) → Contains targets t → CostsTo ops f.graph w starts t d
        → (c : C) × IsOneOf costs c × NoDearer ops c d
    among targets costs z t d inside k =
        let at = get_Contains targets t inside in
        let cost = all_zip-second_at (IsLeastCost ops f w starts) targets costs at.0 t z at.1 in
        let least = no-dearer t cost.0 d cost.2 k in
        (least.0, subst (λ x. Contains costs x) least.1 (Contains_get costs at.0 cost.0 cost.1), least.2)

    reached : (targets : List (Target C)) (costs : List (Option C)) (c : C) → AllZip (IsLeastCost ops f w starts) targets costs → IsOneOf costs c → (t : Target C) × Contains targets t × CostsTo ops f.graph w starts t c
    reached targets costs c z inside =
        let at = get_Contains costs (Some c) inside in
        let target = all_zip-first_at (IsLeastCost ops f w starts) targets costs at.0 (Some c) z at.1 in
        (target.0, Contains_get targets at.0 target.0 target.1, (target.2.0, target.2.1.leads))

    -- the least of what cheapest walks to the targets cost is the cell
    pub cell-least : (targets : List (Target C)) (costs : List (Option C)) (value : Option C) → AllZip (IsLeastCost ops f w starts) targets costs → IsLeastAmong ops (IsOneOf costs) value → IsCell ops f.graph w starts targets value
    cell-least targets costs None z h = λ d b. let one = among targets costs z b.0 d b.1 b.2 in h one.0 one.1
    cell-least targets costs (Some c) z h = (
      reached targets costs c z h.0,
      λ d b. let one = among targets costs z b.0 d b.1 b.2 in le_trans laws c one.0 d (h.1 one.0 one.1) one.2,
    )
