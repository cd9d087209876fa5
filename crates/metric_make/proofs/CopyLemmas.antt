-- What copies cost, one after another.
use Rattle.std.proofs.Common.{◌≡◌, ℕ, ◌+◌, ◌*◌, ◌-◌, ◌<◌, ◌≤◌, List, [], ◌∷◌, ◌++◌, length, get_or, map, drop, take, Option, Some, None, arith, sym, ap, ◌∙◌, append_assoc, suc-add, zero-add}
use Rattle.std.specs.List.{slice_get}
use Rattle.std.specs.Option.{option_map}
use Rattle.std.proofs.lemmas.Option.{same_Some, slice_get-map}
use Rattle.list_lemmas.proofs.Fronts.{take-get}
use Rattle.list_lemmas.proofs.Gets.{get_append, get_some}
use Rattle.search_graph.specs.declared.costs.WeightDurLen.{WeightDurLen}
use Rattle.search_graph.specs.Digraph.{IsArc}
use Rattle.edge_graph.specs.GraphLaws.{turn-in-graph}
use Rattle.edge_graph.specs.NetworkView.{NetworkView, copies_in, graph_of, stands, turn_graph}
use Rattle.edge_graph.specs.Sound.{IsSoundNetwork}
use Rattle.metric_make.specs.CopyLaws.{arcs-alike, by_ends, stood-with_copies}
use Rattle.metric_make.proofs.CostLemmas.{turn-step}
use Rattle.via_paths.specs.Forbidden.{last_of}

-- one copy more
pub copy-step : (network : NetworkView) → IsSoundNetwork network → (costs so_far new : List (Option WeightDurLen)) (q : ℕ) (cost : Option WeightDurLen)
    → length costs ≡ 2 * length network.segments → 2 * length network.segments ≤ q → q < (graph_of network).vertices → stands network q < 2 * length network.segments
    → so_far ≡ costs ++ take (q - 2 * length network.segments) (map (λ word. get_or costs (last_of word) None) (copies_in network))
    → slice_get so_far (stands network q) ≡ Some cost → new ≡ so_far ++ cost ∷ []
    → new ≡ costs ++ take (q + 1 - 2 * length network.segments) (map (λ word. get_or costs (last_of word) None) (copies_in network))
copy-step network sound costs so_far new q cost many far lt low paid read pushed =
    let n = 2 * length network.segments in
    let behind : List (Option WeightDurLen) = map (λ word. get_or costs (last_of word) None) (copies_in network) in
    let k : ℕ = q - n in
    let own = get_some costs (stands network q) (omega (arith, many, low)) in
    let same : own.0 ≡ cost = same_Some own.0 cost (sym (get_append costs (take k behind) (stands network q) own.0 own.1) ∙ ap (λ (l : List (Option WeightDurLen)). slice_get l (stands network q)) (sym paid) ∙ read) in
    let whole : slice_get (costs ++ behind) q ≡ Some cost = stood-with_copies network sound costs many q lt ∙ own.1 ∙ ap Some same in
    let place : q ≡ length costs + k = omega (arith, many, far) in
    let here : slice_get behind k ≡ Some cost = sym (get-behind costs behind k) ∙ ap (slice_get (costs ++ behind)) (sym place) ∙ whole in
    let up : q + 1 - n ≡ k + 1 = omega (arith, far) in
    pushed
    ∙ ap (λ (l : List (Option WeightDurLen)). l ++ cost ∷ []) paid
    ∙ append_assoc costs (take k behind) (cost ∷ [])
    ∙ ap (λ (l : List (Option WeightDurLen)). costs ++ l) (sym (take-get behind k cost here))
    ∙ ap (λ (m : ℕ). costs ++ take m behind) (sym up)
  where
    get-behind : {X : Type 0} (xs ys : List X) (k : ℕ) → slice_get (xs ++ ys) (length xs + k) ≡ slice_get ys k
    get-behind [] ys k = ap (slice_get ys) (zero-add k)
    get-behind (x ∷ xs) ys k = ap (slice_get (x ∷ (xs ++ ys))) (suc-add (length xs) k) ∙ get-behind xs ys k

-- one arc more
pub arc-step : (network : NetworkView) → IsSoundNetwork network → (cost : ℕ × ℕ → WeightDurLen) (so_far new : List WeightDurLen) (i j : ℕ) (own : WeightDurLen) → i < length (graph_of network).arcs
    → ((p q : ℕ) → IsArc (graph_of network) i p q → IsArc (turn_graph network) j (stands network p) (stands network q))
    → slice_get so_far j ≡ Some own → new ≡ so_far ++ own ∷ []
    → so_far ++ by_ends network cost (drop i (graph_of network).arcs) ≡ by_ends network cost (graph_of network).arcs
    → new ++ by_ends network cost (drop (i + 1) (graph_of network).arcs) ≡ by_ends network cost (graph_of network).arcs
arc-step network sound cost so_far new i j own lt turn read pushed rest =
    let arcs = (graph_of network).arcs in
    let arc = get_some arcs i lt in
    let first : slice_get (by_ends network cost (graph_of network).arcs) j ≡ Some own =
    ap (λ (l : List WeightDurLen). slice_get l j) (sym rest) ∙ get_append so_far (by_ends network cost (drop i arcs)) j own read in
    let here : slice_get (by_ends network cost (graph_of network).arcs) i ≡ Some (cost (stands network arc.0.0, stands network arc.0.1)) =
    slice_get-map {A = ℕ × ℕ} {B = WeightDurLen} (λ a. cost (stands network a.0, stands network a.1)) arcs i
    ∙ ap (option_map {T = ℕ × ℕ} {U = WeightDurLen} (λ a. cost (stands network a.0, stands network a.1))) arc.1 in
    let its : own ≡ cost (stands network arc.0.0, stands network arc.0.1) =
    same_Some _ _ (sym first ∙ sym (arcs-alike network sound cost i j arc.0.0 arc.0.1 arc.1 (turn arc.0.0 arc.0.1 arc.1)) ∙ here) in
    turn-step (λ (a : ℕ × ℕ). cost (stands network a.0, stands network a.1)) arcs i arc.0.0 arc.0.1 so_far new own (by_ends network cost (graph_of network).arcs) arc.1 its pushed rest

-- the turn of an arc that was read
pub turn-read : (network : NetworkView) → IsSoundNetwork network → (i from head to : ℕ) → i < length network.turns → slice_get (graph_of network).arcs i ≡ Some (from, head) → to ≡ stands network head → slice_get network.turns i ≡ Some (from, to)
turn-read network sound i from head to lt read is =
    let turn = get_some network.turns i lt in
    let arc = turn-in-graph network sound i turn.0.0 turn.0.1 turn.1 in
    let both : (turn.0.0, arc.0) ≡ (from, head) = same_Some (turn.0.0, arc.0) (from, head) (sym arc.1 ∙ read) in
    let tail : turn.0.0 ≡ from = ap (λ (a : ℕ × ℕ). a.0) both in
    let its : turn.0.1 ≡ to = sym arc.2 ∙ ap (λ (a : ℕ × ℕ). stands network a.1) both ∙ sym is in
    turn.1 ∙ ap (λ (v : ℕ). Some (v, turn.0.1)) tail ∙ ap (λ (v : ℕ). Some (from, v)) its
