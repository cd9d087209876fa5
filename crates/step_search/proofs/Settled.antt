-- What settling a vertex and beginning at a start leave of a search.
use Rattle.std.proofs.Common.{◌≡◌, ℕ, ◌+◌, ◌^◌, ◌<◌, Bool, true, Option, Some, List, [], ◌∷◌, ◌++◌, length, refl, sym, ◌∙◌, ap, subst, true≢false, arith}
use Rattle.std.specs.List.{Contains, slice_get}
use Rattle.std.proofs.lemmas.Option.{slice_get_within}
use Rattle.search_graph.specs.Costs.{CostOps, CostLaws}
use Rattle.search_graph.specs.declared.ends.Start.{Start}
use Rattle.step_search.specs.Spaces.{Space, IsSpace}
use Rattle.search_labels.specs.Labelled.{changed, label_of, settled_of}
use Rattle.step_search.specs.Progress.{IsNode, LabelsFall, SettledWithin, Expanded, IsFront, TreeGrows}
use Rattle.step_search.specs.Stepping.{IsAtWork, IsTaken, NoneSettled, OnlyGrows, Begins, node_of, start_node}
use Rattle.search_labels.specs.declared.labels.Label.{Label}
use Rattle.step_search.specs.declared.dijkstra.Node.{Node}
use Rattle.step_search.specs.declared.dijkstra.Search.{Search}
use Rattle.step_search.proofs.Grown.{slice_get-last, HasNode-last, HasNode-grows, IsFront-push, TreeGrows-among, TreeGrows-push, settle-front, settle-within}
use Rattle.step_search.proofs.Offered.{OnlyGrows-refl}

module _ {C : Type 0} (ops : CostOps C) (S : Space C) where
  -- the front by equals
  pub IsFront-same : (tree tree' : List (Node C)) (label label' : ℕ → Option (Label C)) (settled settled' : ℕ → Bool) (queue queue' : List (C × ℕ)) →
      tree' ≡ tree → label' ≡ label → settled' ≡ settled → queue' ≡ queue → IsFront ops S tree label settled queue → IsFront ops S tree' label' settled' queue'
  IsFront-same tree tree' label label' settled settled' queue queue' t l s q f =
      subst (λ (x : List (Node C)). IsFront ops S x label' settled' queue') (sym t)
      (subst (λ (x : ℕ → Option (Label C)). IsFront ops S tree x settled' queue') (sym l)
      (subst (λ (x : ℕ → Bool). IsFront ops S tree label x queue') (sym s)
      (subst (λ (x : List (C × ℕ)). IsFront ops S tree label settled x) (sym q) f)))

module _ {C : Type 0} {ops : CostOps C} (laws : CostLaws ops) (S : Space C) (old : Search C) (v : ℕ) (l : Label C) (taken : IsTaken ops S old v l)
    (mid : Search C) (tree : mid.tree.items ≡ old.tree.items ++ node_of v l ∷ []) (labels : mid.labels ≡ old.labels) where
  -- the search goes to work on the node of what was taken
  pub node_at_work : (at : ℕ) → mid.queue ≡ old.queue → at ≡ length old.tree.items → IsAtWork ops S mid at (node_of v l)
  node_at_work at queue place = record {
    space = taken.space;
    front = IsFront-same ops S (old.tree.items ++ node_of v l ∷ []) mid.tree.items (label_of old.labels) (label_of mid.labels) (changed taken.settled v true) (settled_of mid.labels) old.queue mid.queue tree (ap label_of labels) (ap settled_of labels ∙ taken.settles) queue
        (settle-front laws S old.tree.items (label_of old.labels) taken.settled taken.before old.queue taken.key v taken.front taken.takes taken.unsettled l taken.has taken.at_key);
    here = subst (λ (t : List (Node C)). slice_get t at ≡ Some (node_of v l)) (sym tree) (subst (λ (i : ℕ). slice_get (old.tree.items ++ node_of v l ∷ []) i ≡ Some (node_of v l)) (sym place) (slice_get-last old.tree.items (node_of v l)));
    vertex = let m = taken.front.labelled v l taken.has in taken.space.heads m.0.vertex v m.2.0 m.2.1;
    units = laws.units_more l.cost (2 ^ 30) (2 ^ 30 + 2 ^ 29) taken.units (omega arith);
    within = subst (λ (x : ℕ → Option (Label C)). SettledWithin ops x (settled_of mid.labels) l.cost) (sym (ap label_of labels))
        (subst (λ (x : ℕ → Bool). SettledWithin ops (label_of old.labels) x l.cost) (sym (ap settled_of labels ∙ taken.settles))
        (settle-within laws S old.tree.items (label_of old.labels) taken.settled taken.before old.queue taken.key v taken.front taken.takes taken.unsettled l taken.has taken.at_key));
  }

  settled_node : IsNode ops S [] old.tree.items (length old.tree.items) (node_of v l)
  settled_node =
      let m = taken.front.labelled v l taken.has in
      record {
        vertex = taken.space.heads m.0.vertex v m.2.0 m.2.1;
        units = laws.units_more l.cost (2 ^ 30) (2 ^ 30 + 2 ^ 29) taken.units (omega arith);
        from = (slice_get_within old.tree.items l.node m.0 m.1, m.0, m.1, m.2);
      }

  -- and the tree has grown by that node, and by what came behind it
  pub node_grows : (new : Search C) → OnlyGrows ops S [] mid new → Expanded ops S (label_of new.labels) v l.cost → OnlyGrows ops S [] old new
  node_grows new f e = record {
    falls = subst (λ (x : ℕ → Option (Label C)). LabelsFall ops x (label_of new.labels)) (ap label_of labels) f.falls;
    settled = f.settled ∙ ap settled_of labels;
    tree = TreeGrows-push ops S [] (label_of new.labels) old.tree.items new.tree.items (node_of v l) settled_node e (subst (λ (t : List (Node C)). TreeGrows ops S [] (label_of new.labels) t new.tree.items) tree f.tree);
  }

nowhere : {E : Type 0} (x : E) → Contains [] x → ⊥
nowhere x h = let lt : h.0 < 0 = h.1 in omega arith

module _ {C : Type 0} {ops : CostOps C} (laws : CostLaws ops) (S : Space C) (old : Search C) (s : Start C) where
  pub begin_at_work : IsSpace ops S → s.vertex < S.vertices → ops.units s.cost 1 → IsFront ops S old.tree.items (label_of old.labels) (settled_of old.labels) old.queue → NoneSettled (settled_of old.labels) →
      (mid : Search C) (at : ℕ) → mid.tree.items ≡ old.tree.items ++ start_node s ∷ [] → mid.labels ≡ old.labels → mid.queue ≡ old.queue → at ≡ length old.tree.items → IsAtWork ops S mid at (start_node s)
  begin_at_work space vertex units front none mid at tree labels queue place = record {
    space = space;
    front = IsFront-same ops S (old.tree.items ++ start_node s ∷ []) mid.tree.items (label_of old.labels) (label_of mid.labels) (settled_of old.labels) (settled_of mid.labels) old.queue mid.queue tree (ap label_of labels) (ap settled_of labels) queue
        (IsFront-push ops S old.tree.items (start_node s) (label_of old.labels) (settled_of old.labels) old.queue front);
    here = subst (λ (t : List (Node C)). slice_get t at ≡ Some (start_node s)) (sym tree) (subst (λ (i : ℕ). slice_get (old.tree.items ++ start_node s ∷ []) i ≡ Some (start_node s)) (sym place) (slice_get-last old.tree.items (start_node s)));
    vertex = vertex;
    units = laws.units_more s.cost 1 (2 ^ 30 + 2 ^ 29) units (omega arith);
    within = λ u l k h. absurd (true≢false (sym k ∙ ap (λ x. settled_of x u) labels ∙ none u));
  }

  pub begin_begins : S.May s.vertex → s.vertex < S.vertices → ops.units s.cost 1 → (mid new : Search C) → mid.tree.items ≡ old.tree.items ++ start_node s ∷ [] → mid.labels ≡ old.labels →
      OnlyGrows ops S [] mid new → Expanded ops S (label_of new.labels) s.vertex s.cost → Begins ops S old new s
  begin_begins may vertex units mid new tree labels f e =
      let at : TreeGrows ops S [] (label_of new.labels) (old.tree.items ++ start_node s ∷ []) new.tree.items = subst (λ (t : List (Node C)). TreeGrows ops S [] (label_of new.labels) t new.tree.items) tree f.tree in
      let among : Contains (s ∷ []) s = (0, omega arith, refl) in
      record {
        grows = record {
          falls = subst (λ (x : ℕ → Option (Label C)). LabelsFall ops x (label_of new.labels)) (ap label_of labels) f.falls;
          settled = f.settled ∙ ap settled_of labels;
          tree = TreeGrows-push ops S (s ∷ []) (label_of new.labels) old.tree.items new.tree.items (start_node s)
              (record { vertex = vertex; units = laws.units_more s.cost 1 (2 ^ 30 + 2 ^ 29) units (omega arith); from = (s, among, may, refl, refl) }) e
              (TreeGrows-among ops S [] (s ∷ []) (λ r h. absurd (nowhere r h)) (label_of new.labels) (old.tree.items ++ start_node s ∷ []) new.tree.items at);
        };
        node = λ m. HasNode-grows ops S [] (label_of new.labels) (old.tree.items ++ start_node s ∷ []) new.tree.items at s.vertex s.cost (HasNode-last old.tree.items (start_node s));
      }

  pub begin_nowhere : (¬ S.May s.vertex) → Begins ops S old old s
  begin_nowhere never = record { grows = OnlyGrows-refl laws S (s ∷ []) old; node = λ m. absurd (never m) }
