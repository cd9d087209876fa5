-- The tree with nodes more, and the front of the search when a vertex is settled.
use Rattle.std.proofs.Common.{◌≡◌, ℕ, zero, suc, ◌⊎◌, inl, inr, Bool, true, false, nat_eq, Option, Some, None, List, [], ◌∷◌, ◌++◌, length, refl, sym, ◌∙◌, ap, subst, true≢false, eq-eqb}
use Rattle.std.specs.List.{Contains, slice_get}
use Rattle.std.proofs.lemmas.Option.{same_Some, none-some}
use Rattle.search_graph.specs.Costs.{CostOps, CostLaws, NoDearer}
use Rattle.search_graph.specs.declared.ends.Start.{Start}
use Rattle.search_graph.specs.OrderLaws.{le_refl, le_trans}
use Rattle.step_search.specs.Spaces.{Space}
use Rattle.search_queue.specs.Queued.{TakesLeast}
use Rattle.search_labels.specs.Labelled.{changed, LabelWithin}
use Rattle.search_labels.specs.ChangedLaws.{same_place, changed-here, changed-there}
use Rattle.step_search.specs.Progress.{HasNode, ComesFrom, IsNode, IsTree, IsLabel, LabelsFall, SettledWithin, Expanded, NodesExpanded, StartsIn, IsFront, TreeGrows}
use Rattle.step_search.specs.Stepping.{node_of}
use Rattle.search_labels.specs.declared.labels.Label.{Label}
use Rattle.step_search.specs.declared.dijkstra.Node.{Node}
use Rattle.step_search.proofs.Falls.{Expanded-falls}

module _ {X : Type 0} where
  -- what a list has, it has with one more
  pub slice_get-left : (xs : List X) (y : X) (i : ℕ) (n : X) → slice_get xs i ≡ Some n → slice_get (xs ++ y ∷ []) i ≡ Some n
  slice_get-left [] y i n h = absurd (none-some n h)
  slice_get-left (x ∷ xs) y zero n h = h
  slice_get-left (x ∷ xs) y (suc i) n h = slice_get-left xs y i n h

  pub slice_get-last : (xs : List X) (y : X) → slice_get (xs ++ y ∷ []) (length xs) ≡ Some y
  slice_get-last [] y = refl
  slice_get-last (x ∷ xs) y = slice_get-last xs y

  pub slice_get-cases : (xs : List X) (y : X) (i : ℕ) (n : X) → slice_get (xs ++ y ∷ []) i ≡ Some n → (slice_get xs i ≡ Some n) ⊎ ((i ≡ length xs) × (y ≡ n))
  slice_get-cases [] y zero n h = inr (refl, same_Some y n h)
  slice_get-cases [] y (suc i) n h = absurd (none-some n h)
  slice_get-cases (x ∷ xs) y zero n h = inl h
  slice_get-cases (x ∷ xs) y (suc i) n h = elim (slice_get-cases xs y i n h) [ inl k ↦ inl k | inr k ↦ inr (ap suc k.0, k.1) ]

module _ {C : Type 0} where
  pub HasNode-left : (tree : List (Node C)) (n : Node C) (u : ℕ) (c : C) → HasNode tree u c → HasNode (tree ++ n ∷ []) u c
  HasNode-left tree n u c h = (h.0, h.1, slice_get-left tree n h.0 h.1 h.2, h.3, h.4)

  pub HasNode-last : (tree : List (Node C)) (n : Node C) → HasNode (tree ++ n ∷ []) n.vertex n.cost
  HasNode-last tree n = (length tree, n, slice_get-last tree n, refl, refl)

module _ {C : Type 0} (ops : CostOps C) (S : Space C) where
  module _ (tree tree' : List (Node C)) (kept : (i : ℕ) (n : Node C) → slice_get tree i ≡ Some n → slice_get tree' i ≡ Some n) where
    HasNode-kept : (u : ℕ) (c : C) → HasNode tree u c → HasNode tree' u c
    HasNode-kept u c h = (h.0, h.1, kept h.0 h.1 h.2, h.3, h.4)

    ComesFrom-kept : (starts : List (Start C)) (i : ℕ) (m : Node C) (o : Option ℕ) → ComesFrom ops S starts tree i m o → ComesFrom ops S starts tree' i m o
    ComesFrom-kept starts i m None h = h
    ComesFrom-kept starts i m (Some j) h = (h.0, h.1, kept j h.1 h.2, h.3)

    IsNode-kept : (starts : List (Start C)) (i : ℕ) (n : Node C) → IsNode ops S starts tree i n → IsNode ops S starts tree' i n
    IsNode-kept starts i n h = record { vertex = h.vertex; units = h.units; from = ComesFrom-kept starts i n n.before h.from }

  module _ (starts more : List (Start C)) (among : (s : Start C) → Contains starts s → Contains more s) where
    ComesFrom-among : (tree : List (Node C)) (i : ℕ) (m : Node C) (o : Option ℕ) → ComesFrom ops S starts tree i m o → ComesFrom ops S more tree i m o
    ComesFrom-among tree i m None h = (h.0, among h.0 h.1, h.2, h.3, h.4)
    ComesFrom-among tree i m (Some j) h = h

    -- more starts, and the tree has grown so still
    pub TreeGrows-among : (label : ℕ → Option (Label C)) (tree tree' : List (Node C)) → TreeGrows ops S starts label tree tree' → TreeGrows ops S more label tree tree'
    TreeGrows-among label tree tree' g = record {
      kept = g.kept;
      more = λ i n k. elim (g.more i n k) [
        | inl q ↦ inl q
        | inr q ↦ inr (record { vertex = q.0.vertex; units = q.0.units; from = ComesFrom-among tree' i n n.before q.0.from }, q.1)
      ];
    }

  module _ (starts : List (Start C)) (label : ℕ → Option (Label C)) where
    pub TreeGrows-same : (tree tree' : List (Node C)) → tree' ≡ tree → TreeGrows ops S starts label tree tree'
    TreeGrows-same tree tree' e = record {
      kept = λ i n k. ap (λ (t : List (Node C)). slice_get t i) e ∙ k;
      more = λ i n k. inl (ap (λ (t : List (Node C)). slice_get t i) (sym e) ∙ k);
    }

    -- a tree that has grown behind a new node has grown by that node, too
    pub TreeGrows-push : (tree tree' : List (Node C)) (n : Node C) → IsNode ops S starts tree (length tree) n → Expanded ops S label n.vertex n.cost → TreeGrows ops S starts label (tree ++ n ∷ []) tree' → TreeGrows ops S starts label tree tree'
    TreeGrows-push tree tree' n h e g =
        let kept : (i : ℕ) (m : Node C) → slice_get tree i ≡ Some m → slice_get tree' i ≡ Some m = λ i m k. g.kept i m (slice_get-left tree n i m k) in
        record {
          kept = kept;
          more = λ i m k. elim (g.more i m k) [
            | inl q ↦ elim (slice_get-cases tree n i m q) [
              | inl r ↦ inl r
              | inr r ↦ inr (
                subst (λ (x : Node C). IsNode ops S starts tree' i x) r.1 (subst (λ (x : ℕ). IsNode ops S starts tree' x n) (sym r.0) (IsNode-kept tree tree' kept starts (length tree) n h)),
                subst (λ (x : Node C). Expanded ops S label x.vertex x.cost) r.1 e,
              )
            ]
            | inr q ↦ inr q
          ];
        }

    module _ (tree tree' : List (Node C)) (g : TreeGrows ops S starts label tree tree') where
      pub IsTree-grows : IsTree ops S starts tree → IsTree ops S starts tree'
      IsTree-grows t = record {
        nodes = λ i n k. elim (g.more i n k) [
          | inl q ↦ IsNode-kept tree tree' g.kept starts i n (t.nodes i n q)
          | inr q ↦ q.0
        ];
      }

      pub NodesExpanded-grows : NodesExpanded ops S tree label → NodesExpanded ops S tree' label
      NodesExpanded-grows e = record { each = λ i n k. elim (g.more i n k) [ inl q ↦ e.each i n q | inr q ↦ q.1 ] }

      pub HasNode-grows : (u : ℕ) (c : C) → HasNode tree u c → HasNode tree' u c
      HasNode-grows = HasNode-kept tree tree' g.kept

      pub StartsIn-grows : (some : List (Start C)) → StartsIn S some tree → StartsIn S some tree'
      StartsIn-grows some h = record { node = λ s k m. HasNode-grows s.vertex s.cost (h.node s k m) }

  -- a tree that has grown while labels fall, and again
  pub TreeGrows-trans : (laws : CostLaws ops) (starts : List (Start C)) (label label' : ℕ → Option (Label C)) → LabelsFall ops label label' → (a b c : List (Node C)) → TreeGrows ops S starts label a b → TreeGrows ops S starts label' b c → TreeGrows ops S starts label' a c
  TreeGrows-trans laws starts label label' falls a b c g h = record {
    kept = λ i n k. h.kept i n (g.kept i n k);
    more = λ i n k. elim (h.more i n k) [
      | inl q ↦ elim (g.more i n q) [
        | inl r ↦ inl r
        | inr r ↦ inr (IsNode-kept b c h.kept starts i n r.0, Expanded-falls laws S label label' n.vertex n.cost falls r.1)
      ]
      | inr q ↦ inr q
    ];
  }

  IsLabel-left : (tree : List (Node C)) (n : Node C) (v : ℕ) (l : Label C) → IsLabel ops S tree v l → IsLabel ops S (tree ++ n ∷ []) v l
  IsLabel-left tree n v l h = (h.0, slice_get-left tree n l.node h.0 h.1, h.2)

  pub IsFront-push : (tree : List (Node C)) (n : Node C) (label : ℕ → Option (Label C)) (settled : ℕ → Bool) (queue : List (C × ℕ)) → IsFront ops S tree label settled queue → IsFront ops S (tree ++ n ∷ []) label settled queue
  IsFront-push tree n label settled queue f = record {
    labelled = λ v l h. IsLabel-left tree n v l (f.labelled v l h);
    in_tree = λ v s. let r = f.in_tree v s in (r.0, r.1, HasNode-left tree n v r.0.cost r.2);
    queued = λ v l s h. elim (f.queued v l s h) [ inl q ↦ inl q | inr q ↦ inr (HasNode-left tree n v l.cost q) ];
    keys = f.keys;
    ordered = f.ordered;
  }

not_itself : (v u : ℕ) → nat_eq v u ≡ false → v ≡ u → ⊥
not_itself v u h e = true≢false (sym (eq-eqb v u e) ∙ h)

module _ {C : Type 0} {ops : CostOps C} (laws : CostLaws ops) (S : Space C) (tree : List (Node C)) (label : ℕ → Option (Label C)) (settled : ℕ → Bool) (before queue : List (C × ℕ)) (key : C) (v : ℕ)
    (front : IsFront ops S tree label settled before) (takes : TakesLeast ops before queue (key, v)) (unsettled : settled v ≡ false) where
  -- what was taken has a label, and it is within the key
  pub taken_label : LabelWithin ops label v key
  taken_label = front.keys key v ((takes.taken (key, v)).1 (inl refl))

  module _ (l : Label C) (has : label v ≡ Some l) (at_key : NoDearer ops key l.cost) where
    -- and within what else stands in the queue
    pub label_least : (k : C) (u : ℕ) → Contains before (k, u) → NoDearer ops l.cost k
    label_least k u h =
        let e : taken_label.0 ≡ l = same_Some taken_label.0 l (sym taken_label.1 ∙ has) in
        le_trans laws l.cost key k (subst (λ (x : Label C). NoDearer ops x.cost key) e taken_label.2) (takes.least (k, u) h)

    -- the labels of what is settled from now on are within it
    pub settle-within : SettledWithin ops label (changed settled v true) l.cost
    settle-within u m s h = elim (same_place v u) [
      | inl k ↦ let e : l ≡ m = same_Some l m (sym has ∙ ap label k ∙ h) in subst (λ (x : Label C). NoDearer ops x.cost l.cost) e (le_refl laws l.cost)
      | inr k ↦ le_trans laws m.cost key l.cost (front.ordered key v ((takes.taken (key, v)).1 (inl refl)) u m (sym (changed-there settled v true u k) ∙ s) h) at_key
    ]

    settle-ordered : (k : C) (u : ℕ) → Contains queue (k, u) → SettledWithin ops label (changed settled v true) k
    settle-ordered k u h w m s g = elim (same_place v w) [
      | inl e ↦ let q : l ≡ m = same_Some l m (sym has ∙ ap label e ∙ g) in subst (λ (x : Label C). NoDearer ops x.cost k) q (label_least k u ((takes.taken (k, u)).1 (inr h)))
      | inr e ↦ front.ordered k u ((takes.taken (k, u)).1 (inr h)) w m (sym (changed-there settled v true w e) ∙ s) g
    ]

    settle-queued : (u : ℕ) (m : Label C) → changed settled v true u ≡ false → label u ≡ Some m → Contains queue (m.cost, u) ⊎ HasNode (tree ++ node_of v l ∷ []) u m.cost
    settle-queued u m s h = elim (same_place v u) [
      | inl k ↦ absurd (true≢false (sym (changed-here settled v true u k) ∙ s))
      | inr k ↦ elim (front.queued u m (sym (changed-there settled v true u k) ∙ s) h) [
        | inl q ↦ elim ((takes.taken (m.cost, u)).0 q) [
          | inl e ↦ absurd (not_itself v u k (sym (ap (λ (p : C × ℕ). p.1) e)))
          | inr r ↦ inl r
        ]
        | inr q ↦ inr (HasNode-left tree (node_of v l) u m.cost q)
      ]
    ]

    settle-in_tree : (u : ℕ) → changed settled v true u ≡ true → (m : Label C) × (label u ≡ Some m) × HasNode (tree ++ node_of v l ∷ []) u m.cost
    settle-in_tree u s = elim (same_place v u) [
      | inl k ↦ (l, sym (ap label k) ∙ has, subst (λ (x : ℕ). HasNode (tree ++ node_of v l ∷ []) x l.cost) k (HasNode-last tree (node_of v l)))
      | inr k ↦ let r = front.in_tree u (sym (changed-there settled v true u k) ∙ s) in (r.0, r.1, HasNode-left tree (node_of v l) u r.0.cost r.2)
    ]

    pub settle-front : IsFront ops S (tree ++ node_of v l ∷ []) label (changed settled v true) queue
    settle-front = record {
      labelled = λ u m h. IsLabel-left ops S tree (node_of v l) u m (front.labelled u m h);
      in_tree = settle-in_tree;
      queued = settle-queued;
      keys = λ k u h. front.keys k u ((takes.taken (k, u)).1 (inr h));
      ordered = settle-ordered;
    }
