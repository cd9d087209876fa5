-- One weighting more: its old cliques serve it, and its searches are counted.
use Rattle.std.proofs.Common.{◌≡◌, ℕ, ◌+◌, ◌-◌, ◌^◌, min, List, [], ◌∷◌, ◌++◌, take, sum_by, Some, arith, sym, subst}
use Rattle.std.specs.List.{slice_get}
use Rattle.std.proofs.lemmas.List.Sums.{sum_by-append, sum_by-cons}
use Rattle.list_lemmas.proofs.Fronts.{all_zip-more}
use Rattle.search_graph.specs.Costs.{CostOps}
use Rattle.search_graph.specs.Digraph.{Weighting}
use Rattle.cell_frame.specs.Borders.{Framed}
use Rattle.cell_frame.specs.Cliqued.{CliqueLists}
use Rattle.cell_recustomize.specs.declared.places.Changed.{Changed}
use Rattle.cell_recustomize.specs.Touched.{IsTouchedCount, WereExact}
use Rattle.class_sets.specs.Exacting.{IsKept, AreCounted}

-- the changes by their lists
pub kept_at : {C : Type 0} (ops : CostOps C) (f : Framed) (w : Weighting C) (old : CliqueLists C) (c : Changed) (vertices arcs : List ℕ) → vertices ≡ c.vertices → arcs ≡ c.arcs →
    IsKept ops f w old c → WereExact ops f w old vertices arcs
kept_at ops f w old c vertices arcs e g h =
    subst (λ (vs : List ℕ). WereExact ops f w old vs arcs) (sym e)
    (subst (λ (is : List ℕ). WereExact ops f w old c.vertices is) (sym g) h.exact)

-- the searches of one weighting more
pub counted_more : (f : Framed) (cs : List Changed) (searches k : ℕ) (c : Changed) (n total : ℕ) → AreCounted f (take k cs) searches → slice_get cs k ≡ Some c → IsTouchedCount f c.vertices c.arcs n →
    total ≡ min (searches + n) (2 ^ 64 - 1) → AreCounted f (take (k + 1) cs) total
counted_more f cs searches k c n total h at count e =
    let before : ℕ = sum_by (λ n. n) h.counts in
    let now : sum_by (λ n. n) (h.counts ++ n ∷ []) ≡ before + sum_by (λ n. n) (n ∷ []) = sum_by-append (λ n. n) h.counts (n ∷ []) in
    let one : sum_by (λ n. n) (n ∷ []) ≡ n + sum_by (λ (n : ℕ). n) [] = sum_by-cons (λ n. n) n [] in
    let so_far : searches ≡ min before (2 ^ 64 - 1) = h.all in
    record {
      counts = h.counts ++ n ∷ [];
      each = all_zip-more (λ (c : Changed) (n : ℕ). IsTouchedCount f c.vertices c.arcs n) cs h.counts k c n h.each at count;
      all = omega (arith, now, one, so_far, e);
    }
