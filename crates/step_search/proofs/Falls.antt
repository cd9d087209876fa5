-- How labels fall while a search goes on, and what stays while they do.
use Rattle.std.proofs.Common.{◌≡◌, ℕ, Bool, true, false, Option, List, refl, sym, ◌∙◌, subst}
use Rattle.std.proofs.lemmas.Option.{same_Some}
use Rattle.search_graph.specs.Costs.{CostOps, CostLaws, NoDearer}
use Rattle.search_graph.specs.OrderLaws.{le_refl, le_trans}
use Rattle.step_search.specs.Spaces.{Space}
use Rattle.step_search.specs.Progress.{LabelsFall, SettledWithin, Expanded, NodesExpanded, IsFront}
use Rattle.search_labels.specs.Labelled.{LabelWithin}
use Rattle.search_labels.specs.declared.labels.Label.{Label}
use Rattle.step_search.specs.declared.dijkstra.Node.{Node}

-- a test is true or false
pub by_truth : {G : Type 0} (b : Bool) → (b ≡ true → G) → (b ≡ false → G) → G
by_truth true f g = f refl
by_truth false f g = g refl

module _ {C : Type 0} {ops : CostOps C} (laws : CostLaws ops) where
  pub LabelWithin-more : (label : ℕ → Option (Label C)) (v : ℕ) (c d : C) → LabelWithin ops label v c → NoDearer ops c d → LabelWithin ops label v d
  LabelWithin-more label v c d h k = (h.0, h.1, le_trans laws h.0.cost c d h.2 k)

  pub LabelWithin-falls : (old new : ℕ → Option (Label C)) (v : ℕ) (c : C) → LabelsFall ops old new → LabelWithin ops old v c → LabelWithin ops new v c
  LabelWithin-falls old new v c f h = LabelWithin-more new v h.0.cost c (f.within v h.0 h.1) h.2

  pub LabelsFall-refl : (label : ℕ → Option (Label C)) → LabelsFall ops label label
  LabelsFall-refl label = record { within = λ v l h. (l, h, le_refl laws l.cost) }

  pub LabelsFall-same : (old new : ℕ → Option (Label C)) → new ≡ old → LabelsFall ops old new
  LabelsFall-same old new e = subst (λ (f : ℕ → Option (Label C)). LabelsFall ops old f) (sym e) (LabelsFall-refl old)

  pub LabelsFall-trans : (a b c : ℕ → Option (Label C)) → LabelsFall ops a b → LabelsFall ops b c → LabelsFall ops a c
  LabelsFall-trans a b c f g = record { within = λ v l h. LabelWithin-falls b c v l.cost g (f.within v l h) }

  pub Expanded-falls : (S : Space C) (old new : ℕ → Option (Label C)) (u : ℕ) (c : C) → LabelsFall ops old new → Expanded ops S old u c → Expanded ops S new u c
  Expanded-falls S old new u c f e = record { finds = λ v s h. LabelWithin-falls old new v (ops.plus c s) f (e.finds v s h) }

  pub NodesExpanded-falls : (S : Space C) (tree : List (Node C)) (old new : ℕ → Option (Label C)) → LabelsFall ops old new → NodesExpanded ops S tree old → NodesExpanded ops S tree new
  NodesExpanded-falls S tree old new f e = record { each = λ i n h. Expanded-falls S old new n.vertex n.cost f (e.each i n h) }

  -- a settled vertex has a label, so that what bounds it bounds the lower one
  pub SettledWithin-falls : (S : Space C) (tree : List (Node C)) (old new : ℕ → Option (Label C)) (settled : ℕ → Bool) (queue : List (C × ℕ)) (c : C) →
      IsFront ops S tree old settled queue → LabelsFall ops old new → SettledWithin ops old settled c → SettledWithin ops new settled c
  SettledWithin-falls S tree old new settled queue c front f w v m s h =
      let r = front.in_tree v s in
      let g = f.within v r.0 r.1 in
      let e : g.0 ≡ m = same_Some g.0 m (sym g.1 ∙ h) in
      le_trans laws m.cost r.0.cost c (subst (λ (x : Label C). NoDearer ops x.cost r.0.cost) e g.2) (w v r.0 s r.1)
