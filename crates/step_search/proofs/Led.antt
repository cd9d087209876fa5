-- What leading on from the head of a hop leaves: its node is in the tree and expanded, and its label needs no entry of the queue.
use Rattle.std.proofs.Common.{◌≡◌, ℕ, ◌+◌, ◌^◌, inl, inr, Bool, false, Some, List, [], ◌∷◌, ◌++◌, length, refl, sym, ◌∙◌, ap, subst}
use Rattle.std.specs.List.{slice_get}
use Rattle.std.proofs.lemmas.Option.{slice_get_within}
use Rattle.search_graph.specs.Costs.{CostOps, CostLaws}
use Rattle.search_graph.specs.OrderLaws.{le_refl}
use Rattle.step_search.specs.Spaces.{Space, HasHop}
use Rattle.search_labels.specs.Labelled.{changed, label_of, settled_of, Improves, LabelWithin}
use Rattle.step_search.specs.Progress.{IsFront, IsLabel, IsNode, Expanded, LabelsFall, SettledWithin}
use Rattle.step_search.specs.Stepping.{IsAtWork, OnlyFalls, OnlyGrows, node_of}
use Rattle.search_labels.specs.declared.labels.Label.{Label}
use Rattle.step_search.specs.declared.dijkstra.Node.{Node}
use Rattle.step_search.specs.declared.dijkstra.Search.{Search}
use Rattle.step_search.proofs.Falls.{LabelWithin-falls, LabelsFall-trans, SettledWithin-falls}
use Rattle.step_search.proofs.Grown.{slice_get-left, slice_get-last, HasNode-last, IsFront-push, TreeGrows-push, TreeGrows-same}
use Rattle.step_search.proofs.Offered.{new-here, put-falls, put-front, settled_within_hop, unsettled_if_improved, within_hop}
use Rattle.step_search.proofs.Settled.{IsFront-same}

module _ {C : Type 0} {ops : CostOps C} (laws : CostLaws ops) (S : Space C) (old : Search C) (at : ℕ) (node : Node C) (work : IsAtWork ops S old at node) (near : ops.units node.cost (2 ^ 30))
    (v : ℕ) (s : C) (hop : HasHop S node.vertex v s) (improves : Improves ops (label_of old.labels) v (ops.plus node.cost s)) where
  -- the label that the hop gives its head, and the head's node at it
  abbrev led_label : Label C
  led_label = record { cost = ops.plus node.cost s; node = at }

  abbrev led_node : Node C
  led_node = node_of v led_label

  -- the head isn't settled
  pub led_unsettled : settled_of old.labels v ≡ false
  led_unsettled = unsettled_if_improved laws (label_of old.labels) (settled_of old.labels) v (ops.plus node.cost s) (settled_within_hop laws S old at node work v s hop) improves

  led_units : ops.units (ops.plus node.cost s) (2 ^ 30 + 2 ^ 29)
  led_units = laws.plus_units node.cost s (2 ^ 30) (2 ^ 29) near (work.space.hop_units node.vertex v s hop)

  led_is_node : IsNode ops S [] old.tree.items (length old.tree.items) led_node
  led_is_node = record {
    vertex = work.space.heads node.vertex v s hop;
    units = led_units;
    from = (slice_get_within old.tree.items at node work.here, node, work.here, (s, hop, refl));
  }

  module _ (mid : Search C) (tree : mid.tree.items ≡ old.tree.items ++ led_node ∷ []) (labels : label_of mid.labels ≡ changed (label_of old.labels) v (Some led_label))
      (settled : settled_of mid.labels ≡ settled_of old.labels) (queue : mid.queue ≡ old.queue) where
    led_falls : LabelsFall ops (label_of old.labels) (label_of mid.labels)
    led_falls = put-falls laws (label_of old.labels) (label_of mid.labels) (settled_of old.labels) old.queue old.queue v led_label labels improves

    led_front : IsFront ops S (old.tree.items ++ led_node ∷ []) (label_of mid.labels) (settled_of old.labels) old.queue
    led_front =
        let is : IsLabel ops S (old.tree.items ++ led_node ∷ []) v led_label = (node, slice_get-left old.tree.items led_node at node work.here, (s, hop, refl)) in
        put-front laws (label_of old.labels) (label_of mid.labels) (settled_of old.labels) old.queue old.queue v led_label labels led_unsettled led_falls S (old.tree.items ++ led_node ∷ [])
        (IsFront-push ops S old.tree.items led_node (label_of old.labels) (settled_of old.labels) old.queue work.front) is (within_hop laws S old at node work v s hop)
        (inr (HasNode-last old.tree.items led_node)) (λ x h. h) (λ x h. inr h)

    -- the search goes to work on the head's node
    pub led_at_work : (here : ℕ) → here ≡ length old.tree.items → IsAtWork ops S mid here led_node
    led_at_work here place = record {
      space = work.space;
      front = IsFront-same ops S (old.tree.items ++ led_node ∷ []) mid.tree.items (label_of mid.labels) (label_of mid.labels) (settled_of old.labels) (settled_of mid.labels) old.queue mid.queue tree refl settled queue led_front;
      here = subst (λ (t : List (Node C)). slice_get t here ≡ Some led_node) (sym tree) (subst (λ (i : ℕ). slice_get (old.tree.items ++ led_node ∷ []) i ≡ Some led_node) (sym place) (slice_get-last old.tree.items led_node));
      vertex = work.space.heads node.vertex v s hop;
      units = led_units;
      within = subst (λ (f : ℕ → Bool). SettledWithin ops (label_of mid.labels) f (ops.plus node.cost s)) (sym settled)
          (SettledWithin-falls laws S old.tree.items (label_of old.labels) (label_of mid.labels) (settled_of old.labels) old.queue (ops.plus node.cost s) work.front led_falls (within_hop laws S old at node work v s hop));
    }

    -- once its arcs are gone along
    module _ (new : Search C) (here : ℕ) (back : IsAtWork ops S new here led_node) (fell : OnlyFalls ops mid new) where
      all_falls : LabelsFall ops (label_of old.labels) (label_of new.labels)
      all_falls = LabelsFall-trans laws (label_of old.labels) (label_of mid.labels) (label_of new.labels) led_falls fell.falls

      -- it is at work on the node before again
      pub led_back : IsAtWork ops S new at node
      led_back = record {
        space = work.space;
        front = back.front;
        here = ap (λ (t : List (Node C)). slice_get t at) (fell.tree ∙ tree) ∙ slice_get-left old.tree.items led_node at node work.here;
        vertex = work.vertex;
        units = work.units;
        within = subst (λ (f : ℕ → Bool). SettledWithin ops (label_of new.labels) f node.cost) (sym (fell.settled ∙ settled))
            (SettledWithin-falls laws S old.tree.items (label_of old.labels) (label_of new.labels) (settled_of old.labels) old.queue node.cost work.front all_falls work.within);
      }

      pub led_found : LabelWithin ops (label_of new.labels) v (ops.plus node.cost s)
      led_found = LabelWithin-falls laws (label_of mid.labels) (label_of new.labels) v (ops.plus node.cost s) fell.falls
          (led_label, new-here laws (label_of old.labels) (label_of mid.labels) (settled_of old.labels) old.queue old.queue v led_label labels v refl, le_refl laws (ops.plus node.cost s))

      -- and the tree has grown by the head's node, since nothing but arcs leads out of the head
      pub led_grows : ((j : ℕ) (t : C) → ¬ S.Costs v j t) → ((i w : ℕ) (t : C) → S.Arc v i w t → LabelWithin ops (label_of new.labels) w (ops.plus (ops.plus node.cost s) t)) → OnlyGrows ops S [] old new
      led_grows arcs found =
          let expanded : Expanded ops S (label_of new.labels) v (ops.plus node.cost s) = record { finds = λ w t h. elim h [ inl k ↦ found k.0 w t k.1 | inr k ↦ absurd (arcs k.0 t k.2) ] } in
          record {
            falls = all_falls;
            settled = fell.settled ∙ settled;
            tree = TreeGrows-push ops S [] (label_of new.labels) old.tree.items new.tree.items led_node led_is_node expanded
                (TreeGrows-same ops S [] (label_of new.labels) (old.tree.items ++ led_node ∷ []) new.tree.items (fell.tree ∙ tree));
          }
