-- The answer to a target that is settled, or when nothing is left to settle.
use Rattle.std.proofs.Common.{◌≡◌, ℕ, ◌<◌, ◌⊎◌, inl, inr, Bool, true, false, Some, None, Option, MatchOption, List, [], ◌∷◌, ◌++◌, reverse, refl, sym, ◌∙◌, ap, subst, arith, IfNone, IfSome, true≢false}
use Rattle.std.specs.Bool.{OnTrue, OnFalse}
use Rattle.std.specs.Option.{is_some}
use Rattle.std.specs.List.{Contains}
use Rattle.std.proofs.lemmas.Option.{same_Some, none-some}
use Rattle.search_graph.specs.Costs.{CostOps, CostLaws, NoDearer}
use Rattle.search_graph.specs.declared.ends.Start.{Start}
use Rattle.search_graph.specs.OrderLaws.{le_trans, le_from_less}
use Rattle.step_search.specs.Spaces.{Space}
use Rattle.step_search.specs.Paths.{IsBeyond, IsPathTo, IsLeastPath, NoPathTo}
use Rattle.search_labels.specs.Labelled.{label_of, settled_of, Improves, LabelWithin}
use Rattle.step_search.specs.Progress.{IsTrail}
use Rattle.step_search.specs.UnderWay.{IsUnderWay, IsDone}
use Rattle.search_labels.specs.declared.labels.Label.{Label}
use Rattle.step_search.specs.declared.dijkstra.Search.{Search}
use Rattle.step_search.proofs.Far.{path_far}
use Rattle.step_search.proofs.Trails.{trail_of, trail_exists}

-- what holds if there is none, where none is there
pub where_none : {X P : Type 0} (o : Option X) → is_some o ≡ false → IfNone o P → P
where_none (Some x) e h = absurd (true≢false e)
where_none None e h = h

pub IfSome-map : {X : Type 0} {P Q : X → Type 0} (o : Option X) → ((x : X) → P x → Q x) → IfSome o P → IfSome o Q
IfSome-map (Some x) f h = f x h
IfSome-map None f h = h

pub IfNone-map : {X P Q : Type 0} (o : Option X) → (P → Q) → IfNone o P → IfNone o Q
IfNone-map (Some x) f h = h
IfNone-map None f h = f h

OnTrue-map : {P Q : Type 0} (b : Bool) → (P → Q) → OnTrue b P → OnTrue b Q
OnTrue-map true f h = f h
OnTrue-map false f h = h

OnFalse-map : {P Q : Type 0} (b : Bool) → (P → Q) → OnFalse b P → OnFalse b Q
OnFalse-map true f h = h
OnFalse-map false f h = f h

nothing_in : {E : Type 0} (xs : List E) (x : E) → xs ≡ [] → Contains xs x → ⊥
nothing_in xs x e h = let none : Contains [] x = subst (λ ys. Contains ys x) e h in let lt : none.0 < 0 = none.1 in omega arith

-- the vertex is settled, or nothing is left to settle
abbrev IsEnded : {C : Type 0} → Search C → ℕ → Type 0
IsEnded search target = (settled_of search.labels target ≡ true) ⊎ (search.queue ≡ [])

by_label : {L : Type 0} {P : Type 0} {Q : L → Type 0} (o : Option L) → (o ≡ None → P) → ((l : L) → o ≡ Some l → Q l) → MatchOption o P Q
by_label None p q = p refl
by_label (Some l) p q = q l refl

module _ {C : Type 0} {ops : CostOps C} (laws : CostLaws ops) (S : Space C) (starts : List (Start C)) (search : Search C) (under_way : IsUnderWay ops S starts search) (target : ℕ) (ended : IsEnded search target) where
  -- a vertex without a label can't be reached
  no_path : label_of search.labels target ≡ None → NoPathTo ops S starts target
  no_path none walk d p =
      elim (path_far laws S under_way.space starts under_way.fit search.tree.items under_way.tree (label_of search.labels) (settled_of search.labels) search.queue under_way.front under_way.expanded
      (λ c. ⊥) (λ c e f g. f)
      (λ v l h q. elim ended [
        | inl k ↦ let r = under_way.front.in_tree target k in none-some r.0 (sym none ∙ r.1)
        | inr k ↦ nothing_in search.queue (l.cost, v) k q
      ])
      under_way.starts_in target walk d p) [
        | inl w ↦ none-some w.0 (sym none ∙ w.1)
        | inr f ↦ f
      ]

  module _ (l : Label C) (has : label_of search.labels target ≡ Some l) where
    -- no path costs less than the label
    label_is_least : (walk : List ℕ) (d : C) → IsPathTo ops S starts target walk d → NoDearer ops l.cost d
    label_is_least walk d p =
        elim (path_far laws S under_way.space starts under_way.fit search.tree.items under_way.tree (label_of search.labels) (settled_of search.labels) search.queue under_way.front under_way.expanded
        (λ c. NoDearer ops l.cost c) (λ c e f g. le_trans laws l.cost c e f g)
        (λ v m h q. elim ended [
          | inl k ↦ under_way.front.ordered m.cost v q target l k has
          | inr k ↦ absurd (nothing_in search.queue (m.cost, v) k q)
        ])
        under_way.starts_in target walk d p) [
          | inl w ↦ let e : w.0 ≡ l = same_Some w.0 l (sym w.1 ∙ has) in subst (λ (x : Label C). NoDearer ops x.cost d) e w.2
          | inr f ↦ f
        ]

  -- so that the search is done with the target
  done : IsDone ops S starts search target
  done = by_label (label_of search.labels target) no_path label_is_least

module _ {C : Type 0} {ops : CostOps C} (laws : CostLaws ops) (S : Space C) (starts : List (Start C)) (search : Search C) (under_way : IsUnderWay ops S starts search) (target : ℕ) where
  pub done_settled : true ≡ settled_of search.labels target → IsDone ops S starts search target
  done_settled s = done laws S starts search under_way target (inl (sym s))

  pub done_empty : search.queue ≡ [] → IsDone ops S starts search target
  done_empty e = done laws S starts search under_way target (inr e)

  -- where nothing is left to settle no path leads to what has no label
  pub no_path_left : search.queue ≡ [] → label_of search.labels target ≡ None → NoPathTo ops S starts target
  no_path_left e none = no_path laws S starts search under_way target (inr e) none

-- a label that costs no more than what no path undercuts
pub done_within : {C : Type 0} {ops : CostOps C} (laws : CostLaws ops) (S : Space C) (starts : List (Start C)) (search : Search C) (target : ℕ) (known : C) → LabelWithin ops (label_of search.labels) target known → IsBeyond ops S starts target known → IsDone ops S starts search target
done_within {C} {ops} laws S starts search target known within far =
    subst (λ (o : Option (Label C)). MatchOption o (NoPathTo ops S starts target) (λ l. IsBeyond ops S starts target l.cost)) (sym within.1)
    (λ walk d p. le_trans laws within.0.cost known d within.2 (far walk d p))

module _ {C : Type 0} (ops : CostOps C) (S : Space C) (starts : List (Start C)) (search : Search C) (under_way : IsUnderWay ops S starts search) (target : ℕ) (done : IsDone ops S starts search target) where
  -- where a search that is done with the target has no label of it there is no path
  pub done_none : label_of search.labels target ≡ None → NoPathTo ops S starts target
  done_none none = subst (λ (o : Option (Label C)). MatchOption o (NoPathTo ops S starts target) (λ l. IsBeyond ops S starts target l.cost)) none done

  module _ (l : Label C) (has : label_of search.labels target ≡ Some l) where
    -- and the label that it has is the least cost
    done_some : IsBeyond ops S starts target l.cost
    done_some = subst (λ (o : Option (Label C)). MatchOption o (NoPathTo ops S starts target) (λ l. IsBeyond ops S starts target l.cost)) has done

    -- and the trail of its node, with the target at its end, leads there at its cost
    pub trail_leads : (trail : List ℕ) → IsTrail search.tree.items (Some l.node) trail → IsPathTo ops S starts target (reverse trail ++ target ∷ []) l.cost
    trail_leads trail t =
        let m = under_way.front.labelled target l has in
        let w = trail_of ops S starts search.tree.items under_way.tree l.node m.0 trail m.1 t in
        record {
          start = w.0;
          among = w.1;
          may = w.2;
          middle = w.3;
          last = m.0.vertex;
          paid = m.0.cost;
          goes = w.4;
          joins = m.2;
          is_walk = ap (λ (x : List ℕ). x ++ target ∷ []) w.5;
        }

    pub least_path : (trail back walk : List ℕ) → IsTrail search.tree.items (Some l.node) trail → back ≡ reverse trail → walk ≡ back ++ target ∷ [] → IsLeastPath ops S starts target walk l.cost
    least_path trail back walk t e d = record {
      leads = subst (λ (x : List ℕ). IsPathTo ops S starts target x l.cost) (sym (d ∙ ap (λ (x : List ℕ). x ++ target ∷ []) e)) (trail_leads trail t);
      least = done_some;
    }

    -- there is such a trail
    pub least_cost : (walk : List ℕ) × IsLeastPath ops S starts target walk l.cost
    least_cost =
        let m = under_way.front.labelled target l has in
        let t = trail_exists ops S starts search.tree.items under_way.tree l.node m.0 m.1 in
        (reverse t.0 ++ target ∷ [], least_path t.0 (reverse t.0) (reverse t.0 ++ target ∷ []) t.1 refl refl)

-- where each key is at the limit or past it
module _ {C : Type 0} {ops : CostOps C} (laws : CostLaws ops) (S : Space C) (starts : List (Start C)) (search : Search C) (under_way : IsUnderWay ops S starts search) (target : ℕ) (limit : C)
    (far : (k : C) (v : ℕ) → Contains search.queue (k, v) → NoDearer ops limit k) where
  within_or_beyond : (walk : List ℕ) (d : C) → IsPathTo ops S starts target walk d → LabelWithin ops (label_of search.labels) target d ⊎ NoDearer ops limit d
  within_or_beyond = path_far laws S under_way.space starts under_way.fit search.tree.items under_way.tree (label_of search.labels) (settled_of search.labels) search.queue under_way.front under_way.expanded
      (λ c. NoDearer ops limit c) (λ c e f g. le_trans laws limit c e f g)
      (λ v l h q. far l.cost v q)
      under_way.starts_in target

  -- the search is done with what has a label within the limit
  done_below : LabelWithin ops (label_of search.labels) target limit → IsDone ops S starts search target
  done_below within =
      subst (λ (o : Option (Label C)). MatchOption o (NoPathTo ops S starts target) (λ l. IsBeyond ops S starts target l.cost)) (sym within.1)
      (λ walk d p. elim (within_or_beyond walk d p) [
        | inl w ↦ let e : w.0 ≡ within.0 = same_Some w.0 within.0 (sym w.1 ∙ within.1) in subst (λ (x : Label C). NoDearer ops x.cost d) e w.2
        | inr f ↦ le_trans laws within.0.cost limit d within.2 f
      ])

  -- and no path to anything else is below it
  beyond : Improves ops (label_of search.labels) target limit → IsBeyond ops S starts target limit
  beyond more walk d p = elim (within_or_beyond walk d p) [
    | inl w ↦ le_trans laws limit w.0.cost d (le_from_less laws limit w.0.cost (more w.0 w.1)) w.2
    | inr f ↦ f
  ]

  module _ (within : Bool) (yes : OnTrue within (LabelWithin ops (label_of search.labels) target limit)) (no : OnFalse within (Improves ops (label_of search.labels) target limit)) where
    pub done_if_within : OnTrue within (IsDone ops S starts search target)
    done_if_within = OnTrue-map within done_below yes

    pub beyond_if_not : OnFalse within (IsBeyond ops S starts target limit)
    beyond_if_not = OnFalse-map within beyond no
