-- The ranks of the hops of leaps, as those of the arcs of their space.
use Rattle.std.proofs.Common.{◌≡◌, ℕ, ◌<◌, List, ◌++◌, [], ◌∷◌, Option, Some, length, refl, inl, inr, sym, ◌∙◌, ap, subst, arith}
use Rattle.std.specs.List.{slice_get}
use Rattle.std.proofs.lemmas.Option.{same_Some}
use Rattle.list_lemmas.proofs.Gets.{get_some, get_push}
use Rattle.search_graph.specs.Costs.{CostOps}
use Rattle.step_search.specs.Spaces.{Space, IsSpace}
use Rattle.step_search.specs.declared.hops.Hop.{Hop}
use Rattle.label_search.specs.Ranked.{AreArcRanks}
use Rattle.label_search.specs.declared.arc_ranks.ArcRank.{ArcRank}
use Rattle.cell_customize.specs.Leaping.{AreBundles, AreRanksOf, IsRankOf, leap_space}
use Rattle.cell_customize.specs.Piling.{get_nothing}
use Rattle.cell_customize.specs.declared.leaps.Bundle.{Bundle}

-- the ranks of the hops are those of the arcs of the leaps
pub AreArcRanks-leaps : {C : Type 0} (ops : CostOps C) (ranked : C → Option ℕ) (S : Space C) (Goal : ℕ → Type 0) (bundles : List Bundle) (hops : List (Hop C)) (done : ℕ) (ranks : List ArcRank) →
    AreBundles ops S Goal bundles hops done → IsSpace ops (leap_space S bundles hops) → AreRanksOf ops ranked hops ranks → AreArcRanks ops ranked (leap_space S bundles hops) ranks
AreArcRanks-leaps {C} ops ranked S Goal bundles hops done ranks all space of = record {
  named = λ u i n.
      let within = (all.each u n.0 n.1).within in
      let below : i < length hops = omega (arith, within, n.3) in
      let few : i < length ranks = omega (arith, below, of.size) in
      let hop = get_some hops i below in
      let arc = get_some ranks i few in
      let is : IsRankOf ops ranked hop.0 arc.0 = of.each i hop.0 arc.0 hop.1 arc.1 in
      let inside : hop.0.head < S.vertices = space.heads u hop.0.head hop.0.cost (inl (i, (n, hop.1))) in
      (arc.0, arc.1, subst (λ (v : ℕ). v < S.vertices) (sym is.head) inside, is.short);
  each = λ u i v s arc a e.
      let is : IsRankOf ops ranked (record { head = v; cost = s }) arc = of.each i (record { head = v; cost = s }) arc a.1 e in
      (sym is.head, is.adds);
}

-- with the rank of one hop more
pub ranks_push : {C : Type 0} (ops : CostOps C) (ranked : C → Option ℕ) (hops : List (Hop C)) (ranks : List ArcRank) (hop : Hop C) (arc : ArcRank) → slice_get hops (length ranks) ≡ Some hop → IsRankOf ops ranked hop arc →
    ((i : ℕ) (h : Hop C) (x : ArcRank) → slice_get hops i ≡ Some h → slice_get ranks i ≡ Some x → IsRankOf ops ranked h x) →
    (i : ℕ) (h : Hop C) (x : ArcRank) → slice_get hops i ≡ Some h → slice_get (ranks ++ arc ∷ []) i ≡ Some x → IsRankOf ops ranked h x
ranks_push {C} ops ranked hops ranks hop arc at is before i h x e r = elim (get_push ranks arc i x r) [
  | inl old ↦ before i h x e old
  | inr new ↦
      let same : h ≡ hop = same_Some h hop (sym e ∙ ap (slice_get hops) new.0 ∙ at) in
      subst (λ (y : Hop C). IsRankOf ops ranked y x) (sym same) (subst (λ (y : ArcRank). IsRankOf ops ranked hop y) (sym new.1) is)
]

-- nothing stands in a list of none
pub ranks_none : {P : Type 0} (i : ℕ) (arc : ArcRank) → slice_get [] i ≡ Some arc → P
ranks_none i arc e = absurd (get_nothing [] i arc refl e)
