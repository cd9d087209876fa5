-- What an offered label leaves: the front of the search, with labels that have only fallen.
use Rattle.std.proofs.Common.{◌≡◌, ℕ, ◌+◌, ◌^◌, ◌⊎◌, inl, inr, Bool, true, false, nat_eq, Option, Some, None, IfSome, List, refl, sym, ◌∙◌, ap, subst, true≢false, arith}
use Rattle.std.specs.List.{Contains, slice_get}
use Rattle.std.proofs.lemmas.Option.{same_Some}
use Rattle.search_graph.specs.Costs.{CostOps, CostLaws, NoDearer}
use Rattle.search_graph.specs.OrderLaws.{le_refl, le_trans, le_from_less, not_both, plus_grows}
use Rattle.search_graph.specs.declared.ends.Start.{Start}
use Rattle.step_search.specs.Spaces.{Space, HasHop}
use Rattle.search_labels.specs.Labelled.{changed, label_of, settled_of, LabelWithin, Improves}
use Rattle.search_labels.specs.ChangedLaws.{same_place, changed-here, changed-there}
use Rattle.step_search.specs.Progress.{HasNode, LabelsFall, SettledWithin, IsLabel, IsFront}
use Rattle.step_search.specs.Stepping.{Offers, IsAtWork, OnlyFalls, OnlyGrows}
use Rattle.step_search.specs.Stepping.Offers.{left, put}
use Rattle.search_labels.specs.declared.labels.Label.{Label}
use Rattle.step_search.specs.declared.dijkstra.Node.{Node}
use Rattle.step_search.specs.declared.dijkstra.Search.{Search}
use Rattle.step_search.specs.declared.hops.Hop.{Hop}
use Rattle.step_search.proofs.Falls.{by_truth, LabelWithin-falls, LabelsFall-same, LabelsFall-trans, SettledWithin-falls}
use Rattle.step_search.proofs.Grown.{TreeGrows-same, TreeGrows-trans}

module _ {C : Type 0} {ops : CostOps C} (laws : CostLaws ops) where
  -- what improves on a label that is within it would be less than itself
  pub unsettled_if_improved : (label : ℕ → Option (Label C)) (settled : ℕ → Bool) (v : ℕ) (c : C) →
      (settled v ≡ true → LabelWithin ops label v c) → Improves ops label v c → settled v ≡ false
  unsettled_if_improved label settled v c w b = by_truth (settled v) (λ s. let h = w s in absurd (not_both laws h.0.cost c h.2 (b h.0 h.1))) (λ s. s)

module _ {C : Type 0} {ops : CostOps C} (laws : CostLaws ops) (old new : ℕ → Option (Label C)) (settled : ℕ → Bool) (before after : List (C × ℕ)) (v : ℕ) (l : Label C) where
  -- the head has a label within what was offered
  pub Offers-within : Offers ops old new settled before after v l → LabelWithin ops new v l.cost
  Offers-within (left e q w) = subst (λ (f : ℕ → Option (Label C)). LabelWithin ops f v l.cost) (sym e) w
  Offers-within (put e q u b) = (l, ap (λ (f : ℕ → Option (Label C)). f v) e ∙ changed-here old v (Some l) v refl, le_refl laws l.cost)

  module _ (e : new ≡ changed old v (Some l)) where
    pub new-here : (u : ℕ) → v ≡ u → new u ≡ Some l
    new-here u k = ap (λ (f : ℕ → Option (Label C)). f u) e ∙ changed-here old v (Some l) u k

    new-there : (u : ℕ) → nat_eq v u ≡ false → new u ≡ old u
    new-there u k = ap (λ (f : ℕ → Option (Label C)). f u) e ∙ changed-there old v (Some l) u k

    -- the label at v is l
    only_l : (u : ℕ) (m : Label C) → v ≡ u → new u ≡ Some m → l ≡ m
    only_l u m k h = same_Some l m (sym (new-here u k) ∙ h)

    pub put-falls : Improves ops old v l.cost → LabelsFall ops old new
    put-falls b = record {
      within = λ u m h. elim (same_place v u) [
        | inl k ↦ (l, new-here u k, le_from_less laws l.cost m.cost (b m (ap old k ∙ h)))
        | inr k ↦ (m, new-there u k ∙ h, le_refl laws m.cost)
      ];
    }

    -- v stands in the queue with its label from now on, or has a node at it
    module _ (unsettled : settled v ≡ false) (falls : LabelsFall ops old new)
        (S : Space C) (tree : List (Node C)) (front : IsFront ops S tree old settled before) (is : IsLabel ops S tree v l) (w : SettledWithin ops old settled l.cost)
        (stands : Contains after (l.cost, v) ⊎ HasNode tree v l.cost) (kept : (x : C × ℕ) → Contains before x → Contains after x) (among : (x : C × ℕ) → Contains after x → (x ≡ (l.cost, v)) ⊎ Contains before x) where
      put-labelled : (u : ℕ) (m : Label C) → new u ≡ Some m → IsLabel ops S tree u m
      put-labelled u m h = elim (same_place v u) [
        | inl k ↦ subst (λ (x : ℕ). IsLabel ops S tree x m) k (subst (λ (x : Label C). IsLabel ops S tree v x) (only_l u m k h) is)
        | inr k ↦ front.labelled u m (sym (new-there u k) ∙ h)
      ]

      -- a settled vertex is another
      elsewhere : (u : ℕ) → settled u ≡ true → new u ≡ old u
      elsewhere u s = elim (same_place v u) [
        | inl k ↦ absurd (true≢false (sym s ∙ sym (ap settled k) ∙ unsettled))
        | inr k ↦ new-there u k
      ]

      put-queued : (u : ℕ) (m : Label C) → settled u ≡ false → new u ≡ Some m → Contains after (m.cost, u) ⊎ HasNode tree u m.cost
      put-queued u m s h = elim (same_place v u) [
        | inl k ↦ subst (λ (x : ℕ). Contains after (m.cost, x) ⊎ HasNode tree x m.cost) k (subst (λ (x : Label C). Contains after (x.cost, v) ⊎ HasNode tree v x.cost) (only_l u m k h) stands)
        | inr k ↦ elim (front.queued u m s (sym (new-there u k) ∙ h)) [ inl q ↦ inl (kept (m.cost, u) q) | inr q ↦ inr q ]
      ]

      put-keys : (k : C) (u : ℕ) → Contains after (k, u) → LabelWithin ops new u k
      put-keys k u h = elim (among (k, u) h) [
        | inl x ↦ (l, new-here u (sym (ap (λ (p : C × ℕ). p.1) x)), subst (λ (c : C). NoDearer ops l.cost c) (sym (ap (λ (p : C × ℕ). p.0) x)) (le_refl laws l.cost))
        | inr x ↦ LabelWithin-falls laws old new u k falls (front.keys k u x)
      ]

      put-ordered : (k : C) (u : ℕ) → Contains after (k, u) → SettledWithin ops new settled k
      put-ordered k u h z m s g =
          let was : old z ≡ Some m = sym (elsewhere z s) ∙ g in
          elim (among (k, u) h) [
            | inl x ↦ subst (λ (c : C). NoDearer ops m.cost c) (sym (ap (λ (p : C × ℕ). p.0) x)) (w z m s was)
            | inr x ↦ front.ordered k u x z m s was
          ]

      pub put-front : IsFront ops S tree new settled after
      put-front = record {
        labelled = put-labelled;
        in_tree = λ u s. let r = front.in_tree u s in (r.0, elsewhere u s ∙ r.1, r.2);
        queued = put-queued;
        keys = put-keys;
        ordered = put-ordered;
      }

  -- labels only fall
  pub Offers-falls : Offers ops old new settled before after v l → LabelsFall ops old new
  Offers-falls (left e q w) = LabelsFall-same laws old new e
  Offers-falls (put e q u b) = put-falls e b

  -- the front stays, where the label is one hop behind a node that settled vertices don't pass
  pub Offers-front : Offers ops old new settled before after v l → (S : Space C) (tree : List (Node C)) →
      IsFront ops S tree old settled before → IsLabel ops S tree v l → SettledWithin ops old settled l.cost → IsFront ops S tree new settled after
  Offers-front (left e q w) S tree front is b =
      subst (λ (x : List (C × ℕ)). IsFront ops S tree new settled x) (sym q) (subst (λ (f : ℕ → Option (Label C)). IsFront ops S tree f settled before) (sym e) front)
  Offers-front (put e q u b) S tree front is w = put-front e u (put-falls e b) S tree front is w (inl ((q (l.cost, v)).1 (inl refl))) (λ x h. (q x).1 (inr h)) (λ x h. (q x).0 h)

-- a hop out of the node at work
module _ {C : Type 0} {ops : CostOps C} (laws : CostLaws ops) (S : Space C) (old : Search C) (at : ℕ) (node : Node C) (work : IsAtWork ops S old at node) where
  node_valid : ops.valid node.cost
  node_valid = laws.units_valid node.cost (2 ^ 30 + 2 ^ 29) work.units

  module _ (v : ℕ) (s : C) (hop : HasHop S node.vertex v s) where
    grows : NoDearer ops node.cost (ops.plus node.cost s)
    grows = plus_grows laws node.cost s node_valid (laws.units_valid s (2 ^ 29) (work.space.hop_units node.vertex v s hop))

    -- what is paid behind it fits
    pub hop_fits : ops.units (ops.plus node.cost s) (2 ^ 31)
    hop_fits = laws.units_more (ops.plus node.cost s) (2 ^ 30 + 2 ^ 29 + 2 ^ 29) (2 ^ 31) (laws.plus_units node.cost s (2 ^ 30 + 2 ^ 29) (2 ^ 29) work.units (work.space.hop_units node.vertex v s hop)) (omega arith)

    -- and no settled vertex is cheaper to come to by it
    pub settled_within_hop : settled_of old.labels v ≡ true → LabelWithin ops (label_of old.labels) v (ops.plus node.cost s)
    settled_within_hop k = let r = work.front.in_tree v k in (r.0, r.1, le_trans laws r.0.cost node.cost (ops.plus node.cost s) (work.within v r.0 k r.1) grows)

    pub within_hop : SettledWithin ops (label_of old.labels) (settled_of old.labels) (ops.plus node.cost s)
    within_hop u m k h = le_trans laws m.cost node.cost (ops.plus node.cost s) (work.within u m k h) grows

    module _ (new : Search C) (o : Offers ops (label_of old.labels) (label_of new.labels) (settled_of old.labels) old.queue new.queue v (record { cost = ops.plus node.cost s; node = at }))
        (same : settled_of new.labels ≡ settled_of old.labels) (tree : new.tree.items ≡ old.tree.items) where
      hop_falls : LabelsFall ops (label_of old.labels) (label_of new.labels)
      hop_falls = Offers-falls laws (label_of old.labels) (label_of new.labels) (settled_of old.labels) old.queue new.queue v (record { cost = ops.plus node.cost s; node = at }) o

      hop_front : IsFront ops S old.tree.items (label_of new.labels) (settled_of old.labels) new.queue
      hop_front = Offers-front laws (label_of old.labels) (label_of new.labels) (settled_of old.labels) old.queue new.queue v (record { cost = ops.plus node.cost s; node = at }) o S old.tree.items work.front (node, work.here, (s, hop, refl)) within_hop

      -- the search stays at work on the node
      pub hop_at_work : IsAtWork ops S new at node
      hop_at_work = record {
        space = work.space;
        front = subst (λ (t : List (Node C)). IsFront ops S t (label_of new.labels) (settled_of new.labels) new.queue) (sym tree)
            (subst (λ (f : ℕ → Bool). IsFront ops S old.tree.items (label_of new.labels) f new.queue) (sym same) hop_front);
        here = ap (λ (t : List (Node C)). slice_get t at) tree ∙ work.here;
        vertex = work.vertex;
        units = work.units;
        within = subst (λ (f : ℕ → Bool). SettledWithin ops (label_of new.labels) f node.cost) (sym same)
            (SettledWithin-falls laws S old.tree.items (label_of old.labels) (label_of new.labels) (settled_of old.labels) old.queue node.cost work.front hop_falls work.within);
      }

      pub hop_only_falls : OnlyFalls ops old new
      hop_only_falls = record { falls = hop_falls; settled = same; tree = tree }

      pub hop_found : LabelWithin ops (label_of new.labels) v (ops.plus node.cost s)
      hop_found = Offers-within laws (label_of old.labels) (label_of new.labels) (settled_of old.labels) old.queue new.queue v (record { cost = ops.plus node.cost s; node = at }) o

module _ {C : Type 0} {ops : CostOps C} (laws : CostLaws ops) where
  pub OnlyFalls-refl : (search : Search C) → OnlyFalls ops search search
  OnlyFalls-refl search = record { falls = LabelsFall-same laws (label_of search.labels) (label_of search.labels) refl; settled = refl; tree = refl }

  pub OnlyFalls-trans : (a b c : Search C) → OnlyFalls ops a b → OnlyFalls ops b c → OnlyFalls ops a c
  OnlyFalls-trans a b c f g = record {
    falls = LabelsFall-trans laws (label_of a.labels) (label_of b.labels) (label_of c.labels) f.falls g.falls;
    settled = g.settled ∙ f.settled;
    tree = g.tree ∙ f.tree;
  }

  -- where only labels fall the tree has grown by nothing
  pub OnlyGrows-falls : (S : Space C) (starts : List (Start C)) (a b : Search C) → OnlyFalls ops a b → OnlyGrows ops S starts a b
  OnlyGrows-falls S starts a b f = record { falls = f.falls; settled = f.settled; tree = TreeGrows-same ops S starts (label_of b.labels) a.tree.items b.tree.items f.tree }

  pub OnlyGrows-refl : (S : Space C) (starts : List (Start C)) (search : Search C) → OnlyGrows ops S starts search search
  OnlyGrows-refl S starts search = OnlyGrows-falls S starts search search (OnlyFalls-refl search)

  pub OnlyGrows-trans : (S : Space C) (starts : List (Start C)) (a b c : Search C) → OnlyGrows ops S starts a b → OnlyGrows ops S starts b c → OnlyGrows ops S starts a c
  OnlyGrows-trans S starts a b c f g = record {
    falls = LabelsFall-trans laws (label_of a.labels) (label_of b.labels) (label_of c.labels) f.falls g.falls;
    settled = g.settled ∙ f.settled;
    tree = TreeGrows-trans ops S laws starts (label_of b.labels) (label_of c.labels) g.falls a.tree.items b.tree.items c.tree.items f.tree g.tree;
  }

-- what holds of the hop that a call gave holds of each that it may give
pub each_hop : {C : Type 0} (P : ℕ → C → Type 0) (hop : Hop C) → P hop.head hop.cost → (w : ℕ) (s : C) → Some hop ≡ Some (record { head = w; cost = s }) → P w s
each_hop {C} P hop p w s e = subst (λ (h : Hop C). P h.head h.cost) (same_Some hop (record { head = w; cost = s }) e) p

-- what holds of a value if there is one
pub of_some : {X : Type 0} (o : Option X) (x : X) (P : X → Type 0) → o ≡ Some x → IfSome o P → P x
of_some o x P e p = subst (λ y. IfSome y P) e p

-- what an arc answers is a hop
pub hop_by_arc : {C : Type 0} (S : Space C) (u i : ℕ) (o : Option (Hop C)) → IfSome o (λ h. S.Arc u i h.head h.cost) → IfSome o (λ h. HasHop S u h.head h.cost)
hop_by_arc S u i None p = p
hop_by_arc S u i (Some h) p = inl (i, p)

-- and what a place of the row does
pub hop_by_place : {C : Type 0} (S : Space C) (u j : ℕ) (heads : List ℕ) (costs : List (Option C)) (o : Option (Hop C)) → heads ≡ S.heads u → ((k : ℕ) (s : C) → slice_get costs k ≡ Some (Some s) → S.Costs u k s) →
    IfSome o (λ h. (slice_get heads j ≡ Some h.head) × (slice_get costs j ≡ Some (Some h.cost))) → IfSome o (λ h. HasHop S u h.head h.cost)
hop_by_place S u j heads costs None e all p = p
hop_by_place S u j heads costs (Some h) e all p = inr (j, subst (λ (xs : List ℕ). slice_get xs j ≡ Some h.head) e p.0, all j h.cost p.1)

-- whose head stands there in the row
pub head_by_place : {C : Type 0} (S : Space C) (u j : ℕ) (heads : List ℕ) (costs : List (Option C)) (o : Option (Hop C)) → heads ≡ S.heads u →
    IfSome o (λ h. (slice_get heads j ≡ Some h.head) × (slice_get costs j ≡ Some (Some h.cost))) → IfSome o (λ h. slice_get (S.heads u) j ≡ Some h.head)
head_by_place S u j heads costs None e p = p
head_by_place S u j heads costs (Some h) e p = subst (λ (xs : List ℕ). slice_get xs j ≡ Some h.head) e p.0
