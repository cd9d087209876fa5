-- What ranks of labels and arcs tell.
use Rattle.std.proofs.Common.{◌≡◌, ℕ, ◌≤◌, ◌+◌, false, Option, Some, List, sym, ◌∙◌, subst, arith}
use Rattle.std.specs.List.{slice_get}
use Rattle.std.specs.Ordering.{is_gt, is_lt, nat_cmp}
use Rattle.std.proofs.lemmas.Bool.Decides.{nat_tests}
use Rattle.search_graph.specs.Costs.{CostOps, CostLaws}
use Rattle.search_graph.specs.Ranks.{AreRanks}
use Rattle.search_graph.specs.OrderLaws.{le_trans, le_from_not_less, plus_grows}
use Rattle.step_search.specs.Spaces.{Space}
use Rattle.label_search.specs.Labelled.{LabelWithin}
use Rattle.label_search.specs.Ranked.{AddsAtLeast, AreArcRanks, IsOverRank}
use Rattle.label_search.specs.declared.arc_ranks.ArcRank.{ArcRank}

not_less : (r t : ℕ) → t ≤ r → is_lt (nat_cmp r t) ≡ false
not_less r t h = grind (arith, nat_tests)

not_more : (r t : ℕ) → t ≤ r → is_gt (nat_cmp t r) ≡ false
not_more r t h = grind (arith, nat_tests)

module _ {C : Type 0} {ops : CostOps C} (laws : CostLaws ops) {ranked : C → Option ℕ} {unranked : ℕ → C} (ranks : AreRanks ops ranked unranked) where
  -- a rank adds itself
  pub adds_rank : (s : C) (n : ℕ) → ranked s ≡ Some n → AddsAtLeast ops ranked n s
  adds_rank s n is a c r t va vs e f le =
      le_from_not_less laws (ops.plus a s) c (subst (λ o. is_lt o ≡ false) (sym (ranks.sums a s c r n t e is f)) (not_less (r + n) t le))

  -- and each cost nothing at least
  pub adds_nothing : (s : C) → AddsAtLeast ops ranked 0 s
  adds_nothing s a c r t va vs e f le =
      let same : t ≤ r = omega (arith, le) in
      le_trans laws c a (ops.plus a s) (subst (λ o. is_gt o ≡ false) (sym (ranks.ordered c a t r f e)) (not_more r t same)) (plus_grows laws a s va vs)

-- an offer along an arc whose rank is over finds a label
pub found_by_rank : {C : Type 0} {ops : CostOps C} {ranked : C → Option ℕ} (S : Space C) (arcs : List ArcRank) (labels : List (Option C)) (u i : ℕ) (a : C) (rank : Option ℕ) (x : ArcRank) →
    AreArcRanks ops ranked S arcs → slice_get arcs i ≡ Some x → rank ≡ ranked a → ops.valid a → IsOverRank ranked labels rank x →
    (w : ℕ) (s : C) → ops.valid s → S.Arc u i w s → LabelWithin ops labels w (ops.plus a s)
found_by_rank {C} {ops} S arcs labels u i a rank x are at is va over w s vs arc =
    let p = are.each u i w s x arc at in
    let r = over.0 in
    let d = over.2 in
    (d.0, subst (λ (v : ℕ). slice_get labels v ≡ Some (Some d.0)) (sym p.0) d.2, p.1 a d.0 r d.1 va vs (sym is ∙ over.1) d.3 d.4)
