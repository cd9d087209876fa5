-- What is kept of rows bounds the labels of their heads while these fall, and after offers along a row.
use Rattle.std.proofs.Common.{◌≡◌, ℕ, ◌^◌, ◌<◌, inl, inr, Option, Some, None, List, [], length, sym, ◌∙◌, subst, arith}
use Rattle.std.specs.List.{Contains, slice_get}
use Rattle.std.proofs.lemmas.Option.{none-some, slice_get_within}
use Rattle.list_lemmas.proofs.Gets.{get_some}
use Rattle.search_graph.specs.Costs.{CostOps, CostLaws}
use Rattle.step_search.specs.Spaces.{Space}
use Rattle.row_labels.specs.Rowed.{LowersRow}
use Rattle.step_search.specs.Progress.{LabelsFall, AreBounds}
use Rattle.step_search.specs.Stepping.{IsAtWork}
use Rattle.search_labels.specs.Labelled.{LabelWithin}
use Rattle.search_labels.specs.declared.labels.Label.{Label}
use Rattle.step_search.specs.declared.dijkstra.Node.{Node}
use Rattle.step_search.specs.declared.dijkstra.Search.{Search}
use Rattle.step_search.proofs.Falls.{LabelWithin-falls, LabelWithin-more}
use Rattle.step_search.proofs.Offered.{hop_fits}

-- where nothing is kept
pub AreBounds-none : {C : Type 0} (ops : CostOps C) (S : Space C) (label : ℕ → Option (Label C)) (rows : ℕ × ℕ → ℕ → Option C) → ((row : ℕ × ℕ) (j : ℕ) → rows row j ≡ None) → AreBounds ops S label rows
AreBounds-none ops S label rows none = record { each = λ u j w d h v. absurd (none-some d (sym (none (S.row u) j) ∙ v)) }

module _ {C : Type 0} {ops : CostOps C} (laws : CostLaws ops) (S : Space C) (old new : ℕ → Option (Label C)) (falls : LabelsFall ops old new) where
  pub AreBounds-falls : (rows : ℕ × ℕ → ℕ → Option C) → AreBounds ops S old rows → AreBounds ops S new rows
  AreBounds-falls rows h = record { each = λ u j w d e v. LabelWithin-falls laws old new w d falls (h.each u j w d e v) }

  -- offers along the row of u, where each improved place has found its head's label within what it offers
  module _ (u : ℕ) (name : ℕ × ℕ) (is : name ≡ S.row u) (same : (v : ℕ) → S.row v ≡ S.row u → S.heads v ≡ S.heads u)
      (before after : ℕ × ℕ → ℕ → Option C) (paid : C) (costs : List (Option C)) (count : ℕ) (improved : List ℕ) (lowers : LowersRow ops before after name paid costs count improved)
      (found : (j w : ℕ) (s : C) → Contains improved j → slice_get (S.heads u) j ≡ Some w → slice_get costs j ≡ Some (Some s) → LabelWithin ops new w (ops.plus paid s)) where
    pub AreBounds-lowered : AreBounds ops S old before → AreBounds ops S new after
    AreBounds-lowered h = record {
      each = λ v j w d e k. elim (lowers.kept (S.row v) j d k) [
        | inl o ↦ LabelWithin-falls laws old new w d falls (h.each v j w d e o)
        | inr i ↦ subst (λ (x : C). LabelWithin ops new w x) (sym i.1.3) (found j w i.1.1 i.1.0 (subst (λ (xs : List ℕ). slice_get xs j ≡ Some w) (same v (i.0 ∙ is)) e) i.1.2)
      ];
    }

    -- so an offer that was passed over finds its head's label within it
    pub row_found : AreBounds ops S old before → (j w : ℕ) (s : C) → j < count → slice_get (S.heads u) j ≡ Some w → slice_get costs j ≡ Some (Some s) → LabelWithin ops new w (ops.plus paid s)
    row_found h j w s lt e k = elim (lowers.found j s lt k) [
      | inl i ↦ found j w s i e k
      | inr f ↦ LabelWithin-more laws new w f.0 (ops.plus paid s) ((AreBounds-lowered h).each u j w f.0 e (subst (λ (x : ℕ × ℕ). after x j ≡ Some f.0) is f.1)) f.2
    ]

-- what is paid behind each place of the row of the node at work fits
pub row_fits : {C : Type 0} {ops : CostOps C} (laws : CostLaws ops) (S : Space C) (search : Search C) (at : ℕ) (node : Node C) → IsAtWork ops S search at node → (heads : List ℕ) → heads ≡ S.heads node.vertex → (costs : List (Option C)) →
    ((j : ℕ) (s : C) → slice_get costs j ≡ Some (Some s) → S.Costs node.vertex j s) → (j : ℕ) (s : C) → j < length heads → slice_get costs j ≡ Some (Some s) → ops.units (ops.plus node.cost s) (2 ^ 31)
row_fits laws S search at node work heads is costs some j s lt e =
    let w = get_some heads j lt in
    hop_fits laws S search at node work w.0 s (inr (j, subst (λ (xs : List ℕ). slice_get xs j ≡ Some w.0) is w.1, some j s e))

-- a row of no costs has no place with one
pub no_cost : {C : Type 0} (costs : List (Option C)) (j : ℕ) (s : C) → costs ≡ [] → slice_get costs j ≡ Some (Some s) → ⊥
no_cost costs j s none e = let lt : j < 0 = slice_get_within [] j (Some s) (subst (λ (xs : List (Option _)). slice_get xs j ≡ Some (Some s)) none e) in omega arith
