-- What the queue gives up on the way to the nearest vertex, and that its label fits.
use Rattle.std.proofs.Common.{◌≡◌, ℕ, ◌^◌, inl, inr, Bool, true, false, Option, Some, List, refl, sym, ◌∙◌, ap, subst, true≢false}
use Rattle.std.specs.Bool.{OnTrue, OnFalse}
use Rattle.std.specs.Ordering.{is_lt}
use Rattle.std.specs.declared.cmp.Ordering.{Ordering}
use Rattle.std.specs.declared.cmp.Ordering.TheVariants.{Less, Equal, Greater}
use Rattle.std.proofs.lemmas.Option.{none-some, same_Some}
use Rattle.search_graph.specs.Costs.{CostOps, CostLaws, NoDearer}
use Rattle.search_graph.specs.declared.ends.Start.{Start}
use Rattle.search_graph.specs.OrderLaws.{le_from_not_less, le_refl, le_trans, not_both}
use Rattle.step_search.specs.Spaces.{Space}
use Rattle.search_queue.specs.Queued.{TakesLeast}
use Rattle.search_labels.specs.Labelled.{changed, label_of, settled_of}
use Rattle.row_labels.specs.Rowed.{value_of}
use Rattle.step_search.specs.Progress.{IsFront, IsTree, NodesExpanded, StartsIn, AreBounds}
use Rattle.step_search.specs.Stepping.{Skips, IsNearest, IsPassed, IsTaken}
use Rattle.step_search.specs.UnderWay.{IsUnderWay}
use Rattle.search_labels.specs.declared.labels.Label.{Label}
use Rattle.step_search.specs.declared.dijkstra.Node.{Node}
use Rattle.step_search.specs.declared.dijkstra.Search.{Search}
use Rattle.step_search.proofs.Far.{label_small}
use Rattle.step_search.proofs.Grown.{label_least}
use Rattle.step_search.proofs.Settled.{IsFront-same}

less_from_is_lt : (r : Ordering) → is_lt r ≡ true → r ≡ Less
less_from_is_lt Less h = refl
less_from_is_lt Equal h = absurd (true≢false (sym h))
less_from_is_lt Greater h = absurd (true≢false (sym h))

-- of two costs that are compared a is less than b, or b is no dearer
module _ {C : Type 0} {ops : CostOps C} (laws : CostLaws ops) (cmp : C → C → Ordering) (same : ops.cmp ≡ cmp) (a b : C) (less : Bool) (is : less ≡ is_lt (cmp a b)) where
  is_lt-cmp : is_lt (ops.cmp a b) ≡ less
  is_lt-cmp = ap (λ (f : C → C → Ordering). is_lt (f a b)) same ∙ sym is

  by_less : (x : Bool) → less ≡ x → OnTrue x (ops.cmp a b ≡ Less) × OnFalse x (NoDearer ops b a)
  by_less true e = (less_from_is_lt (ops.cmp a b) (is_lt-cmp ∙ e), tt)
  by_less false e = (tt, le_from_not_less laws a b (is_lt-cmp ∙ e))

  pub OnTrue-Less : OnTrue less (ops.cmp a b ≡ Less)
  OnTrue-Less = (by_less less refl).0

  pub OnFalse-NoDearer : OnFalse less (NoDearer ops b a)
  OnFalse-NoDearer = (by_less less refl).1

module _ {C : Type 0} {ops : CostOps C} (laws : CostLaws ops) (label : ℕ → Option (Label C)) (settled : ℕ → Bool) where
  pub Skips-refl : (queue : List (C × ℕ)) → Skips ops label settled queue queue
  Skips-refl queue = record { fewer = λ x h. h; kept = λ x l h s m k. h }

  -- an entry that is passed over isn't that of a vertex that has no cheaper label and isn't settled
  another : (e x : C × ℕ) (l : Label C) → IsPassed ops label settled e.0 e.1 → settled x.1 ≡ false → label x.1 ≡ Some l → NoDearer ops x.0 l.cost → x ≡ e → ⊥
  another e x l h s m le q =
      let v : x.1 ≡ e.1 = ap (λ (p : C × ℕ). p.1) q in
      elim h [
        | inl k ↦ true≢false (sym k ∙ ap settled (sym v) ∙ s)
        | inr k ↦ elim k [
          | inl r ↦ none-some l (sym r ∙ ap label (sym v) ∙ m)
          | inr r ↦
              let same : r.0 ≡ l = same_Some r.0 l (sym r.1 ∙ ap label (sym v) ∙ m) in
              not_both laws e.0 l.cost (subst (λ (p : C × ℕ). NoDearer ops p.0 l.cost) q le) (subst (λ (y : Label C). ops.cmp y.cost e.0 ≡ Less) same r.2)
        ]
      ]

  -- an entry that is passed over is skipped
  pub Skips-take : (a b c : List (C × ℕ)) (e : C × ℕ) → Skips ops label settled a b → TakesLeast ops b c e → IsPassed ops label settled e.0 e.1 → Skips ops label settled a c
  Skips-take a b c e k t s = record {
    fewer = λ x h. k.fewer x ((t.taken x).1 (inr h));
    kept = λ x l h u m le. elim ((t.taken x).0 (k.kept x l h u m le)) [
      | inl q ↦ absurd (another e x l s u m le q)
      | inr q ↦ q
    ];
  }

  -- and the front stays without it
  pub IsFront-skips : (S : Space C) (tree : List (Node C)) (a b : List (C × ℕ)) → Skips ops label settled a b → IsFront ops S tree label settled a → IsFront ops S tree label settled b
  IsFront-skips S tree a b k f = record {
    labelled = f.labelled;
    in_tree = f.in_tree;
    queued = λ v l s h. elim (f.queued v l s h) [ inl q ↦ inl (k.kept (l.cost, v) l q s h (le_refl laws l.cost)) | inr q ↦ inr q ];
    keys = λ c v h. f.keys c v (k.fewer (c, v) h);
    ordered = λ c v h. f.ordered c v (k.fewer (c, v) h);
  }

module _ {C : Type 0} {ops : CostOps C} (laws : CostLaws ops) (S : Space C) (starts : List (Start C)) (old : Search C) (under_way : IsUnderWay ops S starts old)
    (mid : Search C) (labels : label_of mid.labels ≡ label_of old.labels) (tree : mid.tree.items ≡ old.tree.items) where
  -- the tree stays, with what is known of it
  pub still_tree : IsTree ops S starts mid.tree.items
  still_tree = subst (λ (t : List (Node C)). IsTree ops S starts t) (sym tree) under_way.tree

  pub still_expanded : NodesExpanded ops S mid.tree.items (label_of mid.labels)
  still_expanded = subst (λ (t : List (Node C)). NodesExpanded ops S t (label_of mid.labels)) (sym tree) (subst (λ (x : ℕ → Option (Label C)). NodesExpanded ops S old.tree.items x) (sym labels) under_way.expanded)

  pub still_starts : StartsIn S starts mid.tree.items
  still_starts = subst (λ (t : List (Node C)). StartsIn S starts t) (sym tree) under_way.starts_in

  pub still_rows : mid.rows ≡ old.rows → AreBounds ops S (label_of mid.labels) (value_of mid.rows.rows)
  still_rows rows = subst (λ (x : ℕ → Option (Label C)). AreBounds ops S x (value_of mid.rows.rows)) (sym labels) (subst (λ x. AreBounds ops S (label_of old.labels) (value_of x.rows)) (sym rows) under_way.rows)

  -- the search that has skipped entries is still under way
  pub skipped_under_way : Skips ops (label_of old.labels) (settled_of old.labels) old.queue mid.queue → settled_of mid.labels ≡ settled_of old.labels → mid.rows ≡ old.rows → IsUnderWay ops S starts mid
  skipped_under_way k settled rows = record {
    space = under_way.space;
    fit = under_way.fit;
    tree = still_tree;
    front = IsFront-same ops S old.tree.items mid.tree.items (label_of old.labels) (label_of mid.labels) (settled_of old.labels) (settled_of mid.labels) mid.queue mid.queue tree labels settled refl
        (IsFront-skips laws (label_of old.labels) (settled_of old.labels) S old.tree.items old.queue mid.queue k under_way.front);
    expanded = still_expanded;
    starts_in = still_starts;
    rows = still_rows rows;
  }

  module _ (v : ℕ) (l : Label C) (near : IsNearest ops (label_of old.labels) (settled_of old.labels) old.queue mid.queue v l) where
    front_before : IsFront ops S old.tree.items (label_of old.labels) (settled_of old.labels) near.before
    front_before = IsFront-skips laws (label_of old.labels) (settled_of old.labels) S old.tree.items old.queue near.before near.skips under_way.front

    -- the label of what was taken: no unsettled label is less
    near_small : ops.units l.cost (2 ^ 30)
    near_small = label_small laws S under_way.space starts under_way.fit old.tree.items under_way.tree (label_of old.labels) (settled_of old.labels) near.before front_before under_way.expanded
        (λ c. NoDearer ops l.cost c) (λ c d f g. le_trans laws l.cost c d f g)
        (λ u m h q. label_least laws S old.tree.items (label_of old.labels) (settled_of old.labels) near.before mid.queue near.key v front_before near.takes near.unsettled l near.has near.at_key m.cost u q)
        under_way.starts_in v l near.has (λ d f. f)

    pub taken_from_near : settled_of mid.labels ≡ changed (settled_of old.labels) v true → IsTaken ops S mid v l
    taken_from_near settles = record {
      space = under_way.space;
      before = near.before;
      settled = settled_of old.labels;
      front = IsFront-same ops S old.tree.items mid.tree.items (label_of old.labels) (label_of mid.labels) (settled_of old.labels) (settled_of old.labels) near.before near.before tree labels refl refl front_before;
      key = near.key;
      takes = near.takes;
      at_key = near.at_key;
      unsettled = near.unsettled;
      settles = settles;
      has = ap (λ (f : ℕ → Option (Label C)). f v) labels ∙ near.has;
      units = near_small;
    }
