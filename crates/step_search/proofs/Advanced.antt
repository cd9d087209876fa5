-- The search once a vertex is settled, or once it has begun at one start more; and how many vertices are still open.
use Rattle.std.proofs.Common.{◌≡◌, ℕ, zero, suc, ◌+◌, ◌<◌, ◌≤◌, inl, inr, Bool, true, false, nat_eq, Some, List, [], ◌∷◌, ◌++◌, refl, sym, ◌∙◌, ap, subst, ◌≢◌, true≢false, eq-eqb, arith}
use Rattle.std.specs.List.{Contains, slice_get}
use Rattle.std.proofs.lemmas.List.Elements.{Contains-push_cases}
use Rattle.std.proofs.lemmas.Option.{none-some}
use Rattle.search_graph.specs.Costs.{CostOps, CostLaws}
use Rattle.search_graph.specs.declared.ends.Start.{Start}
use Rattle.step_search.specs.Spaces.{Space, IsSpace}
use Rattle.step_search.specs.Paths.{AreStarts}
use Rattle.search_labels.specs.Labelled.{changed, label_of, settled_of}
use Rattle.row_labels.specs.Rowed.{value_of}
use Rattle.search_labels.specs.ChangedLaws.{same_place, changed-here, changed-there}
use Rattle.step_search.specs.Progress.{HasNode, IsTree, NodesExpanded, StartsIn, IsFront, AreBounds}
use Rattle.step_search.specs.Stepping.{IsFresh, IsTaken, OnlyGrows, Begins, FewerOpen, one_if_open, open_below}
use Rattle.step_search.specs.UnderWay.{IsUnderWay, IsBegun}
use Rattle.search_labels.specs.declared.labels.Label.{Label}
use Rattle.step_search.specs.declared.dijkstra.Node.{Node}
use Rattle.step_search.specs.declared.dijkstra.Search.{Search}
use Rattle.step_search.proofs.Bounded.{AreBounds-none}
use Rattle.step_search.proofs.Falls.{NodesExpanded-falls}
use Rattle.step_search.proofs.Grown.{HasNode-grows, IsTree-grows, NodesExpanded-grows, StartsIn-grows, TreeGrows-among}

fewer_here : (a b c d : ℕ) → a ≡ 0 → b ≡ 1 → c ≡ d → a + c < b + d
fewer_here a b c d p q r = omega arith

fewer_there : (a b c d : ℕ) → a ≡ b → c < d → a + c < b + d
fewer_there a b c d p q = omega arith

other_below : (v n : ℕ) → v < suc n → nat_eq v n ≡ false → v < n
other_below v n lt e = let other : v ≢ n = λ q. true≢false (sym (eq-eqb v n q) ∙ e) in omega arith

module _ (settled : ℕ → Bool) (v : ℕ) where
  open-same : (n : ℕ) → n ≤ v → open_below (changed settled v true) n ≡ open_below settled n
  open-same zero le = refl
  open-same (suc n) le =
      let rest : open_below (changed settled v true) n ≡ open_below settled n = open-same n (omega arith) in
      let at : changed settled v true n ≡ settled n = elim (same_place v n) [ inl e ↦ absurd (omega arith) | inr e ↦ changed-there settled v true n e ] in
      ap (λ (b : Bool). one_if_open b + open_below (changed settled v true) n) at ∙ ap (λ (k : ℕ). one_if_open (settled n) + k) rest

  -- one fewer once v is settled
  pub open-fewer : (n : ℕ) → v < n → settled v ≡ false → open_below (changed settled v true) n < open_below settled n
  open-fewer zero lt s = absurd (omega arith)
  open-fewer (suc n) lt s = elim (same_place v n) [
    | inl e ↦ fewer_here (one_if_open (changed settled v true n)) (one_if_open (settled n)) (open_below (changed settled v true) n) (open_below settled n)
        (ap one_if_open (changed-here settled v true n e)) (ap one_if_open (sym (ap settled e) ∙ s)) (open-same n (omega arith))
    | inr e ↦ fewer_there (one_if_open (changed settled v true n)) (one_if_open (settled n)) (open_below (changed settled v true) n) (open_below settled n)
        (ap one_if_open (changed-there settled v true n e)) (open-fewer n (other_below v n lt e) s)
  ]

no_start : {C : Type 0} (s : Start C) → Contains [] s → ⊥
no_start s h = let lt : h.0 < 0 = h.1 in omega arith

only_start : {C : Type 0} (s r : Start C) → Contains (s ∷ []) r → s ≡ r
only_start s r h = elim (Contains-push_cases [] s r h) [ inl k ↦ absurd (no_start r k) | inr q ↦ q ]

module _ {C : Type 0} {ops : CostOps C} (laws : CostLaws ops) (S : Space C) (starts : List (Start C)) (old new : Search C)
    (front : IsFront ops S new.tree.items (label_of new.labels) (settled_of new.labels) new.queue) where
  module _ (v : ℕ) (l : Label C) (fit : AreStarts ops S starts) (is_tree : IsTree ops S starts old.tree.items) (expanded : NodesExpanded ops S old.tree.items (label_of old.labels))
      (starts_in : StartsIn S starts old.tree.items) (taken : IsTaken ops S old v l) (puts : OnlyGrows ops S [] old new) where
    -- once a vertex is settled the search is still under way
    pub settled_under_way : AreBounds ops S (label_of new.labels) (value_of new.rows.rows) → IsUnderWay ops S starts new
    settled_under_way rows =
        let grows = TreeGrows-among ops S [] starts (λ s h. absurd (no_start s h)) (label_of new.labels) old.tree.items new.tree.items puts.tree in
        record {
          space = taken.space;
          fit = fit;
          tree = IsTree-grows ops S starts (label_of new.labels) old.tree.items new.tree.items grows is_tree;
          front = front;
          expanded = NodesExpanded-grows ops S starts (label_of new.labels) old.tree.items new.tree.items grows
              (NodesExpanded-falls laws S old.tree.items (label_of old.labels) (label_of new.labels) puts.falls expanded);
          starts_in = StartsIn-grows ops S starts (label_of new.labels) old.tree.items new.tree.items grows starts starts_in;
          rows = rows;
        }

    -- and one vertex fewer is open than in the search before
    pub settled_fewer : (first : Search C) → settled_of first.labels v ≡ false → settled_of new.labels ≡ changed (settled_of first.labels) v true → FewerOpen S first new
    settled_fewer first unsettled settles =
        let m = taken.front.labelled v l taken.has in
        subst (λ (f : ℕ → Bool). open_below f S.vertices < open_below (settled_of first.labels) S.vertices) (sym settles)
        (open-fewer (settled_of first.labels) v S.vertices (taken.space.heads m.0.vertex v m.2.0 m.2.1) unsettled)

  module _ (done : List (Start C)) (begun : IsBegun ops S starts done old) (s : Start C) (among : Contains starts s) (begins : Begins ops S old new s) where
    -- once the search has begun at one start more it has begun at all of these
    pub begun_more : AreBounds ops S (label_of new.labels) (value_of new.rows.rows) → IsBegun ops S starts (done ++ s ∷ []) new
    begun_more rows =
        let grows = TreeGrows-among ops S (s ∷ []) starts (λ r h. subst (λ (x : Start C). Contains starts x) (only_start s r h) among) (label_of new.labels) old.tree.items new.tree.items begins.grows.tree in
        record {
          space = begun.space;
          fit = begun.fit;
          tree = IsTree-grows ops S starts (label_of new.labels) old.tree.items new.tree.items grows begun.tree;
          front = front;
          expanded = NodesExpanded-grows ops S starts (label_of new.labels) old.tree.items new.tree.items grows
              (NodesExpanded-falls laws S old.tree.items (label_of old.labels) (label_of new.labels) begins.grows.falls begun.expanded);
          starts_in = record {
            node = λ r k m. elim (Contains-push_cases done s r k) [
              | inl q ↦ HasNode-grows ops S starts (label_of new.labels) old.tree.items new.tree.items grows r.vertex r.cost (begun.starts_in.node r q m)
              | inr q ↦ subst (λ (x : Start C). HasNode new.tree.items x.vertex x.cost) q (begins.node (subst (λ (x : Start C). S.May x.vertex) (sym q) m))
            ];
          };
          rows = rows;
        }

-- a fresh search has begun nowhere
module _ {C : Type 0} (ops : CostOps C) (S : Space C) (starts : List (Start C)) (search : Search C) (fresh : IsFresh search) where
  no_label : (v : ℕ) (l : Label C) → label_of search.labels v ≡ Some l → ⊥
  no_label v l h = none-some l (sym (fresh.unlabelled v) ∙ h)

  no_node : (i : ℕ) (n : Node C) → slice_get search.tree.items i ≡ Some n → ⊥
  no_node i n h = none-some n (sym (ap (λ t. slice_get t i) fresh.tree) ∙ h)

  no_entry : (x : C × ℕ) → Contains search.queue x → ⊥
  no_entry x h = let none : Contains [] x = subst (λ ys. Contains ys x) fresh.queue h in let lt : none.0 < 0 = none.1 in omega arith

  pub begun_nowhere : IsSpace ops S → AreStarts ops S starts → IsBegun ops S starts [] search
  begun_nowhere space fit = record {
    space = space;
    fit = fit;
    tree = record { nodes = λ i n h. absurd (no_node i n h) };
    front = record {
      labelled = λ v l h. absurd (no_label v l h);
      in_tree = λ v s. absurd (true≢false (sym s ∙ fresh.unsettled v));
      queued = λ v l s h. absurd (no_label v l h);
      keys = λ k v h. absurd (no_entry (k, v) h);
      ordered = λ k v h. absurd (no_entry (k, v) h);
    };
    expanded = record { each = λ i n h. absurd (no_node i n h) };
    starts_in = record { node = λ s h m. absurd (no_start s h) };
    rows = AreBounds-none ops S (label_of search.labels) (value_of search.rows.rows) fresh.rows;
  }
