-- What the arcs between cells cost, one after the other.
use Rattle.std.proofs.Common.{◌≡◌, ℕ, ◌+◌, inl, inr, List, [], ◌∷◌, ◌++◌, length, length-append, Option, Some, arith, refl, sym, ◌∙◌, ap, subst}
use Rattle.std.specs.List.{slice_get}
use Rattle.std.proofs.lemmas.Option.{same_Some, slice_get_within}
use Rattle.list_lemmas.proofs.Gets.{get_push}
use Rattle.search_graph.specs.Costs.{CostOps}
use Rattle.search_graph.specs.Digraph.{Weighting}
use Rattle.cell_frame.specs.declared.crossings.Crossing.{Crossing}
use Rattle.cell_frame.specs.Borders.{Framed}
use Rattle.cell_frame.specs.Cliqued.{AreCrossings, IsCrossingCost}

module _ {C : Type 0} (ops : CostOps C) (f : Framed) (w : Weighting C) where
  pub AreCrossings-push : (m : ℕ) (c : Crossing) (cost : Option C) (costs : List (Option C)) → slice_get f.crossings m ≡ Some c → IsCrossingCost ops w c cost → AreCrossings ops f w m costs → AreCrossings ops f w (m + 1) (costs ++ cost ∷ [])
  AreCrossings-push m c cost costs at is h = record {
    size = omega (arith, length-append costs (cost ∷ []), h.size);
    each = λ i k o there e. elim (get_push costs cost i o e) [
      | inl q ↦ h.each i k o there q
      | inr q ↦
          let same : c ≡ k = same_Some c k (sym at ∙ ap (slice_get f.crossings) (sym (q.0 ∙ h.size)) ∙ there) in
          subst (λ (x : Crossing). IsCrossingCost ops w x o) same (subst (IsCrossingCost ops w c) (sym q.1) is)
    ];
  }
