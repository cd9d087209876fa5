-- How far a search has come along any path: its end is expanded, or what is paid there is far.
use Rattle.std.proofs.Common.{◌≡◌, ℕ, zero, suc, ◌+◌, ◌^◌, ◌<◌, ◌⊎◌, inl, inr, Bool, Option, Some, None, List, [], ◌∷◌, ◌++◌, refl, sym, ◌∙◌, ap, subst, arith}
use Rattle.std.specs.List.{Contains, slice_get}
use Rattle.std.proofs.lemmas.Option.{same_Some}
use Rattle.search_graph.specs.Costs.{CostOps, CostLaws, NoDearer}
use Rattle.search_graph.specs.declared.ends.Start.{Start}
use Rattle.search_graph.specs.OrderLaws.{le_trans, plus_le, plus_le_back, plus_grows}
use Rattle.search_graph.specs.ChainLaws.{Chain-push, Chain-valid, Chain-grows, Chain-from_zero, Chain-to_more}
use Rattle.step_search.specs.Spaces.{Space, HasHop, StepBy, Path, IsSpace, IsLeastCost}
use Rattle.step_search.specs.Paths.{AreStarts, IsPathTo}
use Rattle.step_search.specs.Progress.{HasNode, ComesFrom, IsTree, Expanded, NodesExpanded, StartsIn, IsFront}
use Rattle.search_labels.specs.Labelled.{LabelWithin}
use Rattle.search_labels.specs.declared.labels.Label.{Label}
use Rattle.step_search.specs.declared.dijkstra.Node.{Node}
use Rattle.step_search.proofs.Falls.{by_truth, LabelWithin-more}

module _ {C : Type 0} {ops : CostOps C} (laws : CostLaws ops) (S : Space C) (space : IsSpace ops S) where
  hop_valid : (u v : ℕ) (s : C) → HasHop S u v s → ops.valid s
  hop_valid u v s h = laws.units_valid s (2 ^ 29) (space.hop_units u v s h)

  -- what is expanded at less is expanded at more
  Expanded-more : (label : ℕ → Option (Label C)) (u : ℕ) (c d : C) → ops.valid c → ops.valid d → NoDearer ops c d → Expanded ops S label u c → Expanded ops S label u d
  Expanded-more label u c d vc vd le e = record {
    finds = λ v s h. LabelWithin-more laws label v (ops.plus c s) (ops.plus d s) (e.finds v s h) (plus_le laws c d s vc vd (hop_valid u v s h) le);
  }

  module _ (starts : List (Start C)) (fit : AreStarts ops S starts) (tree : List (Node C)) (is_tree : IsTree ops S starts tree) where
    node_valid : (i : ℕ) (n : Node C) → slice_get tree i ≡ Some n → ops.valid n.cost
    node_valid i n h = laws.units_valid n.cost (2 ^ 30 + 2 ^ 29) (is_tree.nodes i n h).units

    start_valid : (s : Start C) → Contains starts s → ops.valid s.cost
    start_valid s h = laws.units_valid s.cost 1 (fit s h).1

    -- a walk from a start to u, where c is paid
    abbrev HasWalk : ℕ → C → Type 0
    HasWalk u c = (s : Start C) × Contains starts s × S.May s.vertex × (vs : List ℕ) × Path ops S s.vertex s.cost vs u c

    traced_from : (i : ℕ) (n : Node C) (o : Option ℕ) → ComesFrom ops S starts tree i n o → ((j : ℕ) (m : Node C) → j < i → slice_get tree j ≡ Some m → HasWalk m.vertex m.cost) → HasWalk n.vertex n.cost
    traced_from i n None h below = (h.0, h.1, h.2, [], (h.3, h.4))
    traced_from i n (Some j) h below =
        let w = below j h.1 h.0 h.2 in
        (w.0, w.1, w.2, w.3 ++ n.vertex ∷ [], Chain-push (StepBy ops S) w.0.vertex h.1.vertex n.vertex w.0.cost h.1.cost n.cost w.3 w.4 h.3)

    traced_below : (k i : ℕ) (n : Node C) → i < k → slice_get tree i ≡ Some n → HasWalk n.vertex n.cost
    traced_below zero i n lt h = absurd (omega arith)
    traced_below (suc k) i n lt h = traced_from i n n.before (is_tree.nodes i n h).from (λ j m less g. traced_below k j m (omega arith) g)

    -- each node stands for a walk from a start
    pub traced : (i : ℕ) (n : Node C) → slice_get tree i ≡ Some n → HasWalk n.vertex n.cost
    traced i n h = traced_below (suc i) i n (omega arith) h

    module _ (label : ℕ → Option (Label C)) (settled : ℕ → Bool) (queue : List (C × ℕ)) (front : IsFront ops S tree label settled queue) (expanded : NodesExpanded ops S tree label)
        (Far : C → Type 0) (up : (c d : C) → Far c → NoDearer ops c d → Far d) (far : (v : ℕ) (l : Label C) → label v ≡ Some l → Contains queue (l.cost, v) → Far l.cost) where
      -- a vertex with a node at its label is expanded there
      node_expanded : (v : ℕ) (l : Label C) (d : C) → ops.valid d → HasNode tree v l.cost → NoDearer ops l.cost d → Expanded ops S label v d
      node_expanded v l d vd r le =
          let n : Node C = r.1 in
          let at : Expanded ops S label v n.cost = subst (λ (x : ℕ). Expanded ops S label x n.cost) r.3 (expanded.each r.0 n r.2) in
          Expanded-more label v n.cost d (node_valid r.0 n r.2) vd (subst (λ (x : C). NoDearer ops x d) (sym r.4) le) at

      -- so a vertex that has a label is expanded there, or stands in the queue with it
      expanded_or_queued : (v : ℕ) (l : Label C) (d : C) → ops.valid d → label v ≡ Some l → NoDearer ops l.cost d → Expanded ops S label v d ⊎ Contains queue (l.cost, v)
      expanded_or_queued v l d vd h le = by_truth (settled v)
          (λ s.
          let r = front.in_tree v s in
          let e : r.0 ≡ l = same_Some r.0 l (sym r.1 ∙ h) in
          inl (node_expanded v l d vd (subst (λ (x : Label C). HasNode tree v x.cost) e r.2) le))
          (λ s. elim (front.queued v l s h) [ inl q ↦ inr q | inr q ↦ inl (node_expanded v l d vd q le) ])

      pub walk_far : (u z : ℕ) (c d : C) (vs : List ℕ) → ops.valid c → Path ops S u c vs z d → Expanded ops S label u c → Expanded ops S label z d ⊎ Far d
      walk_far u z c d [] k h e = inl (subst (λ (x : C). Expanded ops S label z x) (sym h.1) (subst (λ (x : ℕ). Expanded ops S label x c) (sym h.0) e))
      walk_far u z c d (v ∷ vs) k h e =
          let step = h.1 in
          let found : LabelWithin ops label v h.0 = subst (λ (x : C). LabelWithin ops label v x) (sym step.2) (e.finds v step.0 step.1) in
          let valid : ops.valid h.0 = subst ops.valid (sym step.2) (laws.plus_valid c step.0 k (hop_valid u v step.0 step.1)) in
          elim (expanded_or_queued v found.0 h.0 valid found.1 found.2) [
            | inl x ↦ walk_far v z h.0 d vs valid h.2 x
            | inr q ↦ inr (up found.0.cost d (far v found.0 found.1 q) (le_trans laws found.0.cost h.0 d found.2 (Chain-grows laws hop_valid v z h.0 d vs valid h.2)))
          ]

      module _ (starts_in : StartsIn S starts tree) where
        start_expanded : (s : Start C) → Contains starts s → S.May s.vertex → Expanded ops S label s.vertex s.cost
        start_expanded s h m =
            let r = starts_in.node s h m in
            subst (λ (x : C). Expanded ops S label s.vertex x) r.4 (subst (λ (x : ℕ). Expanded ops S label x r.1.cost) r.3 (expanded.each r.0 r.1 r.2))

        -- a hop behind a walk from a start finds its head's label within what is paid, or that is far
        pub hop_far : (s : Start C) → Contains starts s → S.May s.vertex → (u v : ℕ) (c d : C) (vs : List ℕ) → Path ops S s.vertex s.cost vs u c → StepBy ops S u v c d → LabelWithin ops label v d ⊎ Far d
        hop_far s h m u v c d vs p step =
            let vc : ops.valid c = Chain-valid laws hop_valid s.vertex u s.cost c vs (start_valid s h) p in
            elim (walk_far s.vertex u s.cost c vs (start_valid s h) p (start_expanded s h m)) [
              | inl e ↦ inl (subst (λ (x : C). LabelWithin ops label v x) (sym step.2) (e.finds v step.0 step.1))
              | inr f ↦ inr (up c d f (subst (λ (x : C). NoDearer ops c x) (sym step.2) (plus_grows laws c step.0 vc (hop_valid u v step.0 step.1))))
            ]

        pub path_far : (target : ℕ) (walk : List ℕ) (d : C) → IsPathTo ops S starts target walk d → LabelWithin ops label target d ⊎ Far d
        path_far target walk d p = hop_far p.start p.among p.may p.last target p.paid d p.middle p.goes p.joins

        -- a label that is far only at what it is within is small: some walk as cheap as its own is
        pub label_small : (v : ℕ) (l : Label C) → label v ≡ Some l → ((d : C) → Far d → NoDearer ops l.cost d) → ops.units l.cost (2 ^ 30)
        label_small v l has within =
            let lab = front.labelled v l has in
            let m : Node C = lab.0 in
            let step = lab.2 in
            let s : C = step.0 in
            let vs : ops.valid s = hop_valid m.vertex v s step.1 in
            let w = traced l.node m lab.1 in
            let b : Start C = w.0 in
            let vb : ops.valid b.cost = start_valid b w.1 in
            let z = Chain-from_zero laws hop_valid b.vertex m.vertex b.cost m.cost w.3 vb w.4 in
            let d0 : C = z.0 in
            let vd0 : ops.valid d0 = Chain-valid laws hop_valid b.vertex m.vertex ops.zero d0 w.3 laws.zero_valid z.1 in
            let vm : ops.valid m.cost = node_valid l.node m lab.1 in
            let is_cost : l.cost ≡ ops.plus m.cost s = step.2 in
            let least : IsLeastCost ops S b.vertex m.vertex d0 = λ ws e p.
            let ve : ops.valid e = Chain-valid laws hop_valid b.vertex m.vertex ops.zero e ws laws.zero_valid p in
            let vbe : ops.valid (ops.plus b.cost e) = laws.plus_valid b.cost e vb ve in
            let q : Path ops S b.vertex b.cost ws m.vertex (ops.plus b.cost e) = Chain-to_more laws hop_valid b.vertex m.vertex b.cost e ws vb p in
            let upper : NoDearer ops l.cost (ops.plus (ops.plus b.cost e) s) = elim (hop_far b w.1 w.2 m.vertex v (ops.plus b.cost e) (ops.plus (ops.plus b.cost e) s) ws q (s, step.1, refl)) [
              | inl f ↦ let q : f.0 ≡ l = same_Some f.0 l (sym f.1 ∙ has) in subst (λ (y : Label C). NoDearer ops y.cost (ops.plus (ops.plus b.cost e) s)) q f.2
              | inr f ↦ within (ops.plus (ops.plus b.cost e) s) f
            ] in
            let all : NoDearer ops (ops.plus m.cost s) (ops.plus (ops.plus b.cost e) s) = subst (λ (y : C). NoDearer ops y (ops.plus (ops.plus b.cost e) s)) is_cost upper in
            let before : NoDearer ops m.cost (ops.plus b.cost e) = plus_le_back laws m.cost (ops.plus b.cost e) s vm vbe vs all in
            let begun : NoDearer ops (ops.plus b.cost d0) (ops.plus b.cost e) = subst (λ (y : C). NoDearer ops y (ops.plus b.cost e)) z.2 before in
            let turned : NoDearer ops (ops.plus d0 b.cost) (ops.plus e b.cost) = rw (laws.comm d0 b.cost vd0 vb, laws.comm e b.cost ve vb) begun in
            plus_le_back laws d0 e b.cost vd0 ve vb turned in
            let small : ops.units d0 (2 ^ 28) = space.least_units b.vertex m.vertex d0 w.3 w.2 z.1 least in
            let same : l.cost ≡ ops.plus (ops.plus b.cost d0) s = is_cost ∙ ap (λ (y : C). ops.plus y s) z.2 in
            let few : ops.units (ops.plus (ops.plus b.cost d0) s) (1 + 2 ^ 28 + 2 ^ 29) = laws.plus_units (ops.plus b.cost d0) s (1 + 2 ^ 28) (2 ^ 29) (laws.plus_units b.cost d0 1 (2 ^ 28) (fit b w.1).1 small) (space.hop_units m.vertex v s step.1) in
            subst (λ (y : C). ops.units y (2 ^ 30)) (sym same) (laws.units_more (ops.plus (ops.plus b.cost d0) s) (1 + 2 ^ 28 + 2 ^ 29) (2 ^ 30) few (omega arith))
