-- The trail back from a node, read from its start.
use Rattle.std.proofs.Common.{◌≡◌, ℕ, zero, suc, ◌<◌, length, Option, Some, None, List, [], ◌∷◌, ◌++◌, reverse, append_assoc, arith, refl, sym, ◌∙◌, ap, subst}
use Rattle.std.specs.List.{Contains, slice_get}
use Rattle.std.proofs.lemmas.Option.{same_Some, none-some, slice_get_within}
use Rattle.std.proofs.lemmas.List.{reverse-append}
use Rattle.list_lemmas.proofs.Gets.{get_some}
use Rattle.search_graph.specs.Costs.{CostOps}
use Rattle.search_graph.specs.declared.ends.Start.{Start}
use Rattle.search_graph.specs.ChainLaws.{Chain-push}
use Rattle.step_search.specs.Spaces.{Space, StepBy, Path}
use Rattle.step_search.specs.Progress.{ComesFrom, IsTree, IsBackward, IsTrail}
use Rattle.step_search.specs.declared.dijkstra.Node.{Node}

-- the places that a trail may still go through
abbrev pub steps_left : Option ℕ → ℕ
steps_left None = 0
steps_left (Some i) = suc i

fewer_by : (i : ℕ) (o : Option ℕ) → ((j : ℕ) → o ≡ Some j → j < i) → steps_left o < suc i
fewer_by i None h = omega arith
fewer_by i (Some j) h = let lt : j < i = h j refl in omega arith

module _ {C : Type 0} (tree : List (Node C)) (o : Option ℕ) (i : ℕ) (n : Node C) (at : o ≡ Some i) (has : slice_get tree i ≡ Some n) where
  -- one step back leaves fewer
  pub steps-fewer : IsBackward tree → steps_left n.before < steps_left o
  steps-fewer b = subst (λ (x : Option ℕ). steps_left n.before < steps_left x) (sym at) (fewer_by i n.before (λ j e. b.earlier i j n has e))

  -- the node's vertex goes to the trail so far, and what goes on behind it is the rest
  pub trail-more : (end : Option ℕ) (walk walk' : List ℕ) → walk' ≡ walk ++ n.vertex ∷ [] → ((rest : List ℕ) → IsTrail tree o rest → IsTrail tree end (walk ++ rest)) →
      (rest : List ℕ) → IsTrail tree n.before rest → IsTrail tree end (walk' ++ rest)
  trail-more end walk walk' e h rest t =
      subst (λ (x : List ℕ). IsTrail tree end (x ++ rest)) (sym e)
      (subst (λ (x : List ℕ). IsTrail tree end x) (sym (append_assoc walk (n.vertex ∷ []) rest)) (h (n.vertex ∷ rest) (i, n, at, has, refl, t)))

module _ {C : Type 0} (ops : CostOps C) (S : Space C) (starts : List (Start C)) (tree : List (Node C)) (is_tree : IsTree ops S starts tree) where
  earlier_from : (i j : ℕ) (n : Node C) (o : Option ℕ) → ComesFrom ops S starts tree i n o → o ≡ Some j → j < i
  earlier_from i j n None h e = absurd (none-some j e)
  earlier_from i j n (Some k) h e = subst (λ (x : ℕ). x < i) (same_Some k j e) h.0

  -- each node of a tree names an earlier one, or none
  pub backward : IsBackward tree
  backward = record { earlier = λ i j n h e. earlier_from i j n n.before (is_tree.nodes i n h).from e }

  -- the vertices ws are those of a walk from a start to u, where c is paid
  abbrev IsWalkOver : List ℕ → ℕ → C → Type 0
  IsWalkOver ws u c = (s : Start C) × Contains starts s × S.May s.vertex × (middle : List ℕ) × Path ops S s.vertex s.cost middle u c × (ws ≡ s.vertex ∷ middle)

  -- where a trail has one vertex, its node is a start's
  trail_at_start : (i : ℕ) (n : Node C) (o : Option ℕ) → ComesFrom ops S starts tree i n o → o ≡ None → IsWalkOver (n.vertex ∷ []) n.vertex n.cost
  trail_at_start i n None h e = (h.0, h.1, h.2, [], (h.3, h.4), ap (λ (x : ℕ). x ∷ []) h.3)
  trail_at_start i n (Some j) h e = absurd (none-some j (sym e))

  -- and where it goes on, the walk of the node before it has one hop more
  trail_further : (i : ℕ) (n : Node C) (o : Option ℕ) (j : ℕ) (m : Node C) (ws : List ℕ) → ComesFrom ops S starts tree i n o → o ≡ Some j → slice_get tree j ≡ Some m → IsWalkOver ws m.vertex m.cost → IsWalkOver (ws ++ n.vertex ∷ []) n.vertex n.cost
  trail_further i n None j m ws h e g w = absurd (none-some j e)
  trail_further i n (Some k) j m ws h e g w =
      let same : h.1 ≡ m = same_Some h.1 m (sym h.2 ∙ ap (slice_get tree) (same_Some k j e) ∙ g) in
      let step : StepBy ops S m.vertex n.vertex m.cost n.cost = subst (λ (x : Node C). StepBy ops S x.vertex n.vertex x.cost n.cost) same h.3 in
      (w.0, w.1, w.2, w.3 ++ n.vertex ∷ [], Chain-push (StepBy ops S) w.0.vertex m.vertex n.vertex w.0.cost m.cost n.cost w.3 w.4 step, ap (λ (x : List ℕ). x ++ n.vertex ∷ []) w.5)

  trail_walk : (v : ℕ) (vs : List ℕ) (i : ℕ) (n : Node C) → slice_get tree i ≡ Some n → v ≡ n.vertex → IsTrail tree n.before vs → IsWalkOver (reverse (v ∷ vs)) n.vertex n.cost
  trail_walk v [] i n h e t = subst (λ (x : ℕ). IsWalkOver (x ∷ []) n.vertex n.cost) (sym e) (trail_at_start i n n.before (is_tree.nodes i n h).from t)
  trail_walk v (w ∷ vs) i n h e t =
      let before = trail_walk w vs t.0 t.1 t.3 t.4 t.5 in
      let more = trail_further i n n.before t.0 t.1 (reverse (w ∷ vs)) (is_tree.nodes i n h).from t.2 t.3 before in
      subst (λ (x : List ℕ). IsWalkOver x n.vertex n.cost) (sym (reverse-append (v ∷ []) (w ∷ vs) ∙ ap (λ (x : ℕ). reverse (w ∷ vs) ++ x ∷ []) e)) more

  -- the trail of a node, read from its end, is its walk
  pub trail_of : (i : ℕ) (n : Node C) (trail : List ℕ) → slice_get tree i ≡ Some n → IsTrail tree (Some i) trail → IsWalkOver (reverse trail) n.vertex n.cost
  trail_of i n [] h t = absurd (none-some i (sym t))
  trail_of i n (v ∷ vs) h t =
      let e : t.0 ≡ i = sym (same_Some i t.0 t.2) in
      let same : t.1 ≡ n = same_Some t.1 n (sym t.3 ∙ ap (slice_get tree) e ∙ h) in
      subst (λ (x : Node C). IsWalkOver (reverse (v ∷ vs)) x.vertex x.cost) same (trail_walk v vs t.0 t.1 t.3 t.4 t.5)

  -- each node below place k has a trail
  trail_below : (k i : ℕ) (n : Node C) → i < k → slice_get tree i ≡ Some n → (trail : List ℕ) × IsTrail tree (Some i) trail
  trail_below zero i n lt h = absurd (omega arith)
  trail_below (suc k) i n lt h =
      let before : (o : Option ℕ) → n.before ≡ o → (trail : List ℕ) × IsTrail tree o trail = λ o. elim o as (λ o. n.before ≡ o → (trail : List ℕ) × IsTrail tree o trail) [
        | None ↦ λ e. ([], refl)
        | Some j ↦ λ e.
            let less : j < i = backward.earlier i j n h e in
            let within : i < length tree = slice_get_within tree i n h in
            let m = get_some tree j (omega arith) in
            trail_below k j m.0 (omega arith) m.1
      ] in
      let rest = before n.before refl in
      (n.vertex ∷ rest.0, (i, n, refl, h, refl, rest.1))

  pub trail_exists : (i : ℕ) (n : Node C) → slice_get tree i ≡ Some n → (trail : List ℕ) × IsTrail tree (Some i) trail
  trail_exists i n h = trail_below (suc i) i n (omega arith) h
