-- Chains backwards, and chains that stay where they are.
use Rattle.std.proofs.Common.{◌≡◌, ℕ, List, [], ◌∷◌, ◌++◌, sym, ◌∙◌, subst}
use Rattle.search_graph.specs.Costs.{CostOps, CostLaws}
use Rattle.search_graph.specs.Walks.{Chain, Paying}
use Rattle.search_graph.specs.OrderLaws.{zero_plus}
use Rattle.search_graph.specs.ChainLaws.{Chain-push, Chain-valid, Chain-from_zero}

-- from where P holds each step leads to where it holds, and is one of other steps
module _ {C : Type 0} (S T : ℕ → ℕ → C → C → Type 0) (P : ℕ → Type 0) (keeps : (u v : ℕ) (c d : C) → P u → S u v c d → P v × T u v c d) where
  pub Chain-keep : (u z : ℕ) (c d : C) (vs : List ℕ) → P u → Chain S u c vs z d → Chain T u c vs z d
  Chain-keep u z c d [] p h = h
  Chain-keep u z c d (v ∷ vs) p h = let k = keeps u v c h.0 p h.1 in (h.0, k.1, Chain-keep v z h.0 d vs k.0 h.2)

  -- and P holds where the chain ends
  pub Chain-stays : (u z : ℕ) (c d : C) (vs : List ℕ) → P u → Chain S u c vs z d → P z
  Chain-stays u z c d [] p h = subst P (sym h.0) p
  Chain-stays u z c d (v ∷ vs) p h = let k = keeps u v c h.0 p h.1 in Chain-stays v z h.0 d vs k.0 h.2

module _ {C : Type 0} {ops : CostOps C} (laws : CostLaws ops) {Hop : ℕ → ℕ → C → Type 0} (hops : (u v : ℕ) (s : C) → Hop u v s → ops.valid s) where
  -- to each chain there is one over the same hops from its end to its beginning, at the same cost
  pub Chain-back : (u z : ℕ) (d : C) (vs : List ℕ) → Chain (Paying ops Hop) u ops.zero vs z d → (ws : List ℕ) × Chain (Paying ops (λ v u s. Hop u v s)) z ops.zero ws u d
  Chain-back u z d [] h = ([], (sym h.0, h.1))
  Chain-back u z d (v ∷ vs) h =
      let s : C = h.1.0 in
      let valid_s : ops.valid s = hops u v s h.1.1 in
      let paid : h.0 ≡ s = h.1.2 ∙ zero_plus laws s valid_s in
      let rest = Chain-from_zero laws hops v z s d vs valid_s (subst (λ x. Chain (Paying ops Hop) v x vs z d) paid h.2) in
      let valid_rest : ops.valid rest.0 = Chain-valid laws hops v z ops.zero rest.0 vs laws.zero_valid rest.1 in
      let back = Chain-back v z rest.0 vs rest.1 in
      (back.0 ++ u ∷ [], Chain-push (Paying ops (λ v u s. Hop u v s)) z v u ops.zero rest.0 d back.0 back.1 (s, h.1.1, rest.2 ∙ laws.comm s rest.0 valid_s valid_rest))
