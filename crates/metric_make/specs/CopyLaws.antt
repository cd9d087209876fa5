-- Laws of copies: a copy of a vertex costs what the vertex does, and an arc what its turn does. So costs by what is stood
-- for are alike, and what holds of all costs holds with copies.
use Rattle.std.proofs.Common.{◌≡◌, ℕ, zero, suc, ◌+◌, ◌*◌, ◌<◌, List, [], ◌∷◌, ◌++◌, length, length-append, get_or, map, drop, take, Option, Some, None, All, arith, refl, sym, ap, ap₂, ◌∙◌}
use Rattle.std.specs.List.{slice_get}
use Rattle.std.specs.Option.{ForSome, option_map}
use Rattle.std.proofs.lemmas.List.{drop-map, length-map, take-append-drop}
use Rattle.std.proofs.lemmas.List.Elements.{All-append, All-head, All-map, All-tail}
use Rattle.std.proofs.lemmas.Option.{none-some, same_Some, slice_get-get_or, slice_get-map, slice_get_within}
use Rattle.list_lemmas.proofs.Gets.{All_get, get_some}
use Rattle.search_graph.specs.declared.costs.WeightDurLen.{WeightDurLen}
use Rattle.search_graph.specs.Digraph.{IsArc}
use Rattle.edge_graph.specs.GraphLaws.{graph-vertices, ordinary-stands, segments-in-graph, stands-below, turn-in-graph}
use Rattle.edge_graph.specs.NetworkView.{NetworkView, copies_in, graph_of, stands, turn_graph}
use Rattle.edge_graph.specs.Sound.{IsSoundNetwork}
use Rattle.metric_make.specs.MetricOf.{AreAlike, with_copies}
use Rattle.via_paths.specs.Forbidden.{last_of}
use Rattle.via_paths.specs.CostLaws.{costed}
use Rattle.via_paths.specs.PrefixLaws.{copies_of-are}

-- what some arcs of the searched graph cost, where each costs what the turn does for which it stands
abbrev pub by_ends : NetworkView → (ℕ × ℕ → WeightDurLen) → List (ℕ × ℕ) → List WeightDurLen
by_ends network cost arcs = map (λ arc. cost (stands network arc.0, stands network arc.1)) arcs

get_or-holds : (P : Option WeightDurLen → Type 0) → P None → (costs : List (Option WeightDurLen)) → All P costs → (k : ℕ) → P (get_or costs k None)
get_or-holds P none [] h k = none
get_or-holds P none (cost ∷ costs) h zero = All-head P cost costs h
get_or-holds P none (cost ∷ costs) h (suc k) = get_or-holds P none costs (All-tail P cost costs h) k

-- a list that has the elements of another is that one, as far as it goes
front-by-gets : {X : Type 0} (xs ys : List X) → ((k : ℕ) (x : X) → slice_get xs k ≡ Some x → slice_get ys k ≡ Some x) → xs ≡ take (length xs) ys
front-by-gets [] ys h = refl
front-by-gets (x ∷ xs) [] h = absurd (none-some x (h zero x refl))
front-by-gets {X} (x ∷ xs) (y ∷ ys) h =
    let head : x ≡ y = same_Some x y (sym (h zero x refl)) in
    let tail : xs ≡ take (length xs) ys = front-by-gets xs ys (λ k z e. h (suc k) z e) in
    ap₂ (λ (z : X) (zs : List X). z ∷ zs) head tail

-- a cost that is there is one of these
abbrev IsPaidIn : List (Option WeightDurLen) → Option WeightDurLen → Type 0
IsPaidIn costs cost = ForSome cost (λ x. (k : ℕ) × (slice_get costs k ≡ Some (Some x)))

module _ (network : NetworkView) where
  -- there are as many costs as the searched graph has vertices
  pub length-with_copies : (costs : List (Option WeightDurLen)) → length costs ≡ 2 * length network.segments → length (with_copies network costs) ≡ (graph_of network).vertices
  length-with_copies costs many =
      let behind : List (Option WeightDurLen) = map (λ word. get_or costs (last_of word) None) (copies_in network) in
      length-append costs behind ∙ ap₂ (λ (m n : ℕ). m + n) many (length-map (copies_in network) (λ word. get_or costs (last_of word) None)) ∙ sym (graph-vertices network)

  -- what holds of each cost, and of none, holds with copies
  pub All-with_copies : (P : Option WeightDurLen → Type 0) → P None → (costs : List (Option WeightDurLen)) → All P costs → All P (with_copies network costs)
  All-with_copies P none costs h =
      All-append P costs (map (λ word. get_or costs (last_of word) None) (copies_in network)) h
      (All-map P (λ word. get_or costs (last_of word) None) (copies_in network) (λ k d lt. get_or-holds P none costs h (last_of (get_or (copies_in network) k d))))

  -- what is open costs what some vertex does
  pub open-with_copies : (costs : List (Option WeightDurLen)) (v : ℕ) (x : WeightDurLen) → slice_get (with_copies network costs) v ≡ Some (Some x) → (k : ℕ) × (slice_get costs k ≡ Some (Some x))
  open-with_copies costs v x e =
      All_get (IsPaidIn costs) (with_copies network costs) v (Some x) (All-with_copies (IsPaidIn costs) (λ y f. absurd (none-some y f)) costs here) e x refl
    where
      here : All (IsPaidIn costs) costs
      here k d lt y f = (k, slice_get-get_or costs k d lt ∙ ap Some f)

  module _ (sound : IsSoundNetwork network) where
    -- a vertex of the searched graph costs what the vertex does for which it stands
    pub stood-with_copies : (costs : List (Option WeightDurLen)) → length costs ≡ 2 * length network.segments → (q : ℕ) → q < (graph_of network).vertices → slice_get (with_copies network costs) q ≡ slice_get costs (stands network q)
    stood-with_copies costs many q lt =
        let within : q < 2 * length network.segments + length (copies_in network) = omega (arith, graph-vertices network) in
        (costed {C = WeightDurLen} (2 * length network.segments) network.forbidden (copies_in network) [] costs (λ p q. record { weight = 0; duration = 0; length = 0 }) (copies_of-are network.forbidden) many sound.ordinary).vertex q within

    -- each vertex of the searched graph costs what the vertex does for which it stands, in the same list
    pub vertices-alike : (costs : List (Option WeightDurLen)) → length costs ≡ 2 * length network.segments → (q : ℕ) → q < (graph_of network).vertices → slice_get (with_copies network costs) q ≡ slice_get (with_copies network costs) (stands network q)
    vertices-alike costs many q lt =
        let low : stands network q < 2 * length network.segments = stands-below network sound q lt in
        let within : stands network q < (graph_of network).vertices = omega (arith, segments-in-graph network) in
        stood-with_copies costs many q lt ∙ sym (stood-with_copies costs many (stands network q) within ∙ ap (slice_get costs) (ordinary-stands network (stands network q) low))

    module _ (cost : ℕ × ℕ → WeightDurLen) where
      arc-cost : (i p q : ℕ) → IsArc (graph_of network) i p q → slice_get (by_ends network cost (graph_of network).arcs) i ≡ Some (cost (stands network p, stands network q))
      arc-cost i p q arc =
          slice_get-map {A = ℕ × ℕ} {B = WeightDurLen} (λ a. cost (stands network a.0, stands network a.1)) (graph_of network).arcs i
          ∙ ap (option_map {T = ℕ × ℕ} {U = WeightDurLen} (λ a. cost (stands network a.0, stands network a.1))) arc

      -- the arc of a turn's number costs what the turn does
      pub turn-by_ends : (j d e : ℕ) → IsArc (turn_graph network) j d e → slice_get (by_ends network cost (graph_of network).arcs) j ≡ Some (cost (d, e))
      turn-by_ends j d e turn =
          let there = turn-in-graph network sound j d e turn in
          let same : stands network d ≡ d = ordinary-stands network d (sound.in_range j d e turn).0 in
          arc-cost j d there.0 there.1
          ∙ ap (λ (u : ℕ). Some (cost (u, stands network there.0))) same
          ∙ ap (λ (v : ℕ). Some (cost (d, v))) there.2

      -- and so does each arc
      pub arcs-alike : (i j p q : ℕ) → IsArc (graph_of network) i p q → IsArc (turn_graph network) j (stands network p) (stands network q) → slice_get (by_ends network cost (graph_of network).arcs) i ≡ slice_get (by_ends network cost (graph_of network).arcs) j
      arcs-alike i j p q arc turn = arc-cost i p q arc ∙ sym (turn-by_ends j (stands network p) (stands network q) turn)

      -- the turns come first
      pub turns-by_ends : map cost network.turns ++ by_ends network cost (drop (length network.turns) (graph_of network).arcs) ≡ by_ends network cost (graph_of network).arcs
      turns-by_ends =
          let arcs = (graph_of network).arcs in
          let many : length (map cost network.turns) ≡ length network.turns = length-map network.turns cost in
          let front : map cost network.turns ≡ take (length network.turns) (by_ends network cost (graph_of network).arcs) =
          front-by-gets (map cost network.turns) (by_ends network cost (graph_of network).arcs) in-front ∙ ap (λ (n : ℕ). take n (by_ends network cost (graph_of network).arcs)) many in
          ap₂ (λ (xs ys : List WeightDurLen). xs ++ ys) front (sym (drop-map (λ (arc : ℕ × ℕ). cost (stands network arc.0, stands network arc.1)) (length network.turns) arcs))
          ∙ take-append-drop (length network.turns) (by_ends network cost (graph_of network).arcs)
        where
          in-front : (k : ℕ) (x : WeightDurLen) → slice_get (map cost network.turns) k ≡ Some x → slice_get (by_ends network cost (graph_of network).arcs) k ≡ Some x
          in-front k x e =
              let lt : k < length network.turns = omega (arith, slice_get_within (map cost network.turns) k x e, length-map network.turns cost) in
              let turn = get_some network.turns k lt in
              let paid : slice_get (map cost network.turns) k ≡ Some (cost turn.0) = slice_get-map cost network.turns k ∙ ap (option_map cost) turn.1 in
              turn-by_ends k turn.0.0 turn.0.1 turn.1 ∙ sym paid ∙ e

      -- costs by what is stood for are alike
      pub alike-by_ends : (costs : List (Option WeightDurLen)) → length costs ≡ 2 * length network.segments → AreAlike network (record { vertex = with_copies network costs; arc = by_ends network cost (graph_of network).arcs })
      alike-by_ends costs many = record { vertex = vertices-alike costs many; arc = arcs-alike }
