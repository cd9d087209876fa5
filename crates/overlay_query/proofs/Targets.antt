-- The best of several targets: with one target more, and as the answer.
use Rattle.std.proofs.Common.{◌≡◌, ℕ, ◌+◌, ◌<◌, ◌≤◌, ◌^◌, ◌*◌, inl, inr, true, false, Option, Some, None, List, map, length, arith, refl, sym, ◌∙◌, ap, subst}
use Rattle.std.specs.Prelude.{IfSome}
use Rattle.std.specs.List.{Contains, slice_get}
use Rattle.std.specs.declared.cmp.Ordering.{Ordering}
use Rattle.std.specs.declared.cmp.Ordering.TheVariants.{Less, Equal, Greater}
use Rattle.std.specs.Ordering.{is_gt, is_lt}
use Rattle.std.proofs.lemmas.Bool.{cases_lt, true≢false}
use Rattle.std.proofs.lemmas.List.{length-map}
use Rattle.std.proofs.lemmas.Option.{same_Some, slice_get_within}
use Rattle.list_lemmas.proofs.Gets.{Contains_get, get_Contains}
use Rattle.search_graph.specs.declared.ends.Start.{Start}
use Rattle.search_graph.specs.declared.ends.Target.{Target}
use Rattle.search_graph.specs.Costs.{CostOps, CostLaws, NoDearer}
use Rattle.search_graph.specs.Digraph.{Weighting, IsOpen}
use Rattle.search_graph.specs.Walks.{IsLeastWalk, NoneBetween}
use Rattle.search_graph.specs.WeightLaws.{least_walk_units}
use Rattle.search_graph.specs.OrderLaws.{le_refl, le_trans, le_from_not_less}
use Rattle.step_search.specs.Paths.{IsBeyond}
use Rattle.cell_frame.specs.Borders.{Framed}
use Rattle.cell_frame.specs.Cliqued.{CliqueLists}
use Rattle.overlay_query.specs.declared.nearest.Priced.{Priced}
use Rattle.overlay_query.specs.declared.packed.PackedFound.{PackedFound}
use Rattle.overlay_query.specs.Answers.{IsPackedFound, IsPackedCheapest}
use Rattle.overlay_query.specs.Best.{IsPriced, NoneBelow, IsBehind, IsBetter, IsLesser, IsBest}
use Rattle.overlay_query.specs.Query.{IsQuery, IsAsked, query_space}
use Rattle.overlay_query.proofs.Beyond.{none_below}
use Rattle.overlay_query.proofs.Finding.{IsBeyond-query}

none_some : {X : Type 0} (x : X) → ◌≡◌ {A = Option X} None (Some x) → ⊥
none_some x e = cc

lt_not_gt : (o : Ordering) → is_lt o ≡ true → is_gt o ≡ false
lt_not_gt Less e = refl
lt_not_gt Equal e = refl
lt_not_gt Greater e = absurd (true≢false (sym e))

-- a place among the targets' vertices is one among the targets
pub place_within : {C : Type 0} (targets : List (Target C)) (vertices given : List ℕ) (k v : ℕ) → vertices ≡ map (λ t. t.vertex) targets → given ≡ vertices → slice_get given k ≡ Some v → k < length targets
place_within {C} targets vertices given k v are same at =
    let lt : k < length given = slice_get_within given k v at in
    let n : length given ≡ length targets = ap length same ∙ ap length are ∙ length-map targets (λ (t : Target C). t.vertex) in
    omega (arith, lt, n)

module _ {C : Type 0} {ops : CostOps C} (laws : CostLaws ops) (cmp : C → C → Ordering) (same : ops.cmp ≡ cmp) (a b : C) where
  -- a cost that is less is no dearer
  pub no_dearer_less : is_lt (cmp a b) ≡ true → NoDearer ops a b
  no_dearer_less e = lt_not_gt (ops.cmp a b) (subst (λ (c : C → C → Ordering). is_lt (c a b) ≡ true) (sym same) e)

  -- and where it isn't less, the other is no dearer
  pub no_dearer_else : is_lt (cmp a b) ≡ false → NoDearer ops b a
  no_dearer_else e = le_from_not_less laws a b (subst (λ (c : C → C → Ordering). is_lt (c a b) ≡ false) (sym same) e)

module _ {C : Type 0} {ops : CostOps C} (laws : CostLaws ops) (f : Framed) (w : Weighting C) (terminals : List ℕ) (starts : List (Start C)) where
  module _ (t : Target C) where
    -- a target that no walk to costs less than the best so far changes nothing
    pub IsBetter-behind : (best : Option (Priced C)) → IfSome best (IsPriced ops f w terminals starts) → IsBehind ops f w starts best t → IsBetter ops f w terminals starts best t best
    IsBetter-behind None priced h = absurd h
    IsBetter-behind (Some b) priced h = (inl refl, priced, h, le_refl laws b.cost)

    -- nor does one without a walk
    pub IsBetter-none : (best : Option (Priced C)) → IfSome best (IsPriced ops f w terminals starts) → NoneBetween ops f.graph w starts t → IsBetter ops f w terminals starts best t best
    IsBetter-none None priced none = (refl, none)
    IsBetter-none (Some b) priced none = (inl refl, priced, (λ walk e q. absurd (none walk e q)), le_refl laws b.cost)

    -- no walk to a closed vertex costs less than anything
    pub NoneBelow-closed : (d : C) → slice_get w.vertex t.vertex ≡ Some None → NoneBelow ops f w starts t d
    NoneBelow-closed d none walk e q = absurd (none_some q.target_open.0 (same_Some None (Some q.target_open.0) (sym none ∙ q.target_open.1)))

    -- the lesser of the best so far and of a cheapest walk to the target is the best
    pub IsBetter-lesser : (best : Option (Priced C)) (cost : C) (least : Priced C) → IfSome best (IsPriced ops f w terminals starts) → IsAsked ops f terminals t → (walk : List ℕ) → IsLeastWalk ops f.graph w starts t walk cost →
        IsLesser ops best (record { target = t; cost = cost }) least → IsBetter ops f w terminals starts best t (Some least)
    IsBetter-lesser best cost least priced asked walk h lesser = elim lesser [
      | inl q ↦ (
        inl q.0,
        subst (λ (o : Option (Priced C)). IfSome o (IsPriced ops f w terminals starts)) q.0 priced,
        (λ other e b. le_trans laws least.cost cost e q.1 (h.least other e b)),
        subst (λ (o : Option (Priced C)). IfSome o (λ b. NoDearer ops least.cost b.cost)) (sym q.0) (le_refl laws least.cost),
      )
      | inr q ↦ subst (λ (n : Priced C). IsBetter ops f w terminals starts best t (Some n)) (sym q.0) (inr refl, record { asked = asked; walk = walk; least = h }, h.least, q.1)
    ]

  module _ (targets : List (Target C)) where
    -- the best so far has its price
    pub IsBest-priced : (m : ℕ) (best : Option (Priced C)) → IsBest ops f w terminals starts targets m best → IfSome best (IsPriced ops f w terminals starts)
    IsBest-priced m None h = tt
    IsBest-priced m (Some b) h = h.1

    -- each of the targets may be the best to begin with
    pub IsBest-first : (t : Target C) → Contains targets t → (new : Option (Priced C)) → IsBetter ops f w terminals starts None t new → IsBest ops f w terminals starts targets 0 new
    IsBest-first t among None h = λ k x lt e. absurd (omega (arith, lt))
    IsBest-first t among (Some n) h = (
      elim h.0 [ inl e ↦ absurd (none_some n e) | inr e ↦ subst (λ (x : Target C). Contains targets x) (sym e) among ],
      h.1,
      λ k x lt e. absurd (omega (arith, lt)),
    )

    module _ (m : ℕ) (t : Target C) (at : slice_get targets m ≡ Some t) where
      -- what holds of the first targets and of one more
      so_far : (P : Target C → Type 0) → ((k : ℕ) (x : Target C) → k < m → slice_get targets k ≡ Some x → P x) → P t → (k : ℕ) (x : Target C) → k < m + 1 → slice_get targets k ≡ Some x → P x
      so_far P before here k x lt e = elim (cases_lt k m) [
        | inl less ↦ before k x less e
        | inr le ↦ let same : k ≡ m = omega (arith, lt, le) in subst P (same_Some t x (sym at ∙ ap (slice_get targets) (sym same) ∙ e)) here
      ]

      -- the best of one target more
      pub IsBest-more : (old new : Option (Priced C)) → IsBest ops f w terminals starts targets m old → IsBetter ops f w terminals starts old t new → IsBest ops f w terminals starts targets (m + 1) new
      IsBest-more None None best h = so_far (λ x. NoneBetween ops f.graph w starts x) best h.1
      IsBest-more (Some o) None best h = absurd (none_some o (sym h.0))
      IsBest-more None (Some n) best h = (
        elim h.0 [ inl e ↦ absurd (none_some n e) | inr e ↦ subst (λ (x : Target C). Contains targets x) (sym e) (Contains_get targets m t at) ],
        h.1,
        so_far (λ x. NoneBelow ops f w starts x n.cost) (λ k x lt e walk d q. absurd (best k x lt e walk d q)) h.2,
      )
      IsBest-more (Some o) (Some n) best h = (
        elim h.0 [ inl e ↦ subst (λ (x : Priced C). Contains targets x.target) (same_Some o n e) best.0 | inr e ↦ subst (λ (x : Target C). Contains targets x) (sym e) (Contains_get targets m t at) ],
        h.1,
        so_far (λ x. NoneBelow ops f w starts x n.cost) (λ k x lt e walk d q. le_trans laws n.cost o.cost d h.3 (best.2 k x lt e walk d q)) h.2,
      )

    module _ (m : ℕ) (all : length targets ≤ m) where
      within : (k : ℕ) (t : Target C) → slice_get targets k ≡ Some t → k < m
      within k t e = let lt : k < length targets = slice_get_within targets k t e in omega (arith, all, lt)

      -- none of all targets
      pub none_of_all : IsBest ops f w terminals starts targets m None → (t : Target C) → Contains targets t → NoneBetween ops f.graph w starts t
      none_of_all best t h = let g = get_Contains targets t h in best g.0 t (within g.0 t g.1) g.1

      -- the answer to the best of all targets
      pub IsPackedCheapest-best : (b : Priced C) (answer : Option (PackedFound C)) → IsBest ops f w terminals starts targets m (Some b) → IsPackedFound ops f w terminals starts b.target answer → IsPackedCheapest ops f w terminals starts targets answer
      IsPackedCheapest-best b None best none = absurd (none best.1.walk b.cost best.1.least.leads)
      IsPackedCheapest-best b (Some a) best found = (
        b.target,
        best.0,
        found,
        λ t walk e h q.
            let g = get_Contains targets t h in
            le_trans laws a.cost b.cost e (found.least best.1.walk b.cost best.1.least.leads) (best.2 g.0 t (within g.0 t g.1) g.1 walk e q),
      )

-- the limit of a search is within its bounds, and beyond it no walk costs less than the best so far
module _ {C : Type 0} {ops : CostOps C} (laws : CostLaws ops) (f : Framed) (w : Weighting C) (cliques : CliqueLists C) (terminals : List ℕ) (starts : List (Start C)) (query : IsQuery ops f w cliques terminals starts)
    (b : Priced C) (priced : IsPriced ops f w terminals starts b) (t : Target C) (asked : IsAsked ops f terminals t) (x : C) (o : IsOpen w t.vertex x) where
  few : ops.units b.cost (2 * f.graph.vertices + 1)
  few = least_walk_units laws f.graph w query.small starts b.target query.starts_unit priced.asked.unit priced.walk b.cost priced.least

  pub limit_units : ops.units (ops.plus b.cost x) (2 ^ 31)
  limit_units = laws.units_more (ops.plus b.cost x) (2 * f.graph.vertices + 1 + 1) (2 ^ 31) (laws.plus_units b.cost x (2 * f.graph.vertices + 1) 1 few (query.small.vertex_unit t.vertex x o)) (omega (arith, query.small.few))

  pub NoneBelow-limit : IsBeyond ops (query_space ops f w terminals) starts t.vertex (ops.plus b.cost x) → NoneBelow ops f w starts t b.cost
  NoneBelow-limit beyond = none_below laws f.graph w query.small starts query.starts_unit t asked.unit x b.cost o (laws.units_valid b.cost (2 * f.graph.vertices + 1) few) (IsBeyond-query laws f w cliques terminals starts query t asked (ops.plus b.cost x) beyond)
