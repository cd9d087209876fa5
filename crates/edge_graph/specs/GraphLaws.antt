-- How the graph that is searched lies beside that of the turns: its first vertices are those of the network and stand for
-- themselves, and each arc stands for a turn.
use Rattle.std.proofs.Common.{◌≡◌, ◌⊎◌, inl, inr, ℕ, zero, suc, ◌+◌, ◌-◌, ◌*◌, ◌<◌, ◌≤◌, ◌==◌, Bool, List, [], ◌∷◌, ◌++◌, Some, All, cond, filter, get_or, length, map, length-append, arith, ap, refl, subst, sym, ◌∙◌}
use Rattle.std.specs.List.{Contains, range_with_len, slice_get}
use Rattle.std.proofs.lemmas.Bool.{cases_lt, eq-eqb, eqb-true, lt-ltb}
use Rattle.std.proofs.lemmas.List.{length-map}
use Rattle.std.proofs.lemmas.List.Elements.{Contains-append_cases}
use Rattle.std.proofs.lemmas.List.FromFn.{get_or-range_with_len, length-range_with_len}
use Rattle.std.proofs.lemmas.Option.{get_or_from_slice_get, same_Some, slice_get-get_or, slice_get_within}
use Rattle.list_lemmas.proofs.Gets.{Contains_get, get_Contains, get_is, get_some}
use Rattle.search_graph.specs.Digraph.{IsArc}
use Rattle.search_graph.specs.Faults.{AllInRange}
use Rattle.edge_graph.specs.NetworkView.{NetworkView, copies_at, copies_in, graph_of, stands, turn_graph}
use Rattle.edge_graph.specs.Sound.{IsSoundNetwork}
use Rattle.via_paths.specs.Expansion.{arcs_out, copy_arcs, expanded_arcs, goes_on, onward}
use Rattle.via_paths.specs.Forbidden.{last_of}
use Rattle.via_paths.specs.ArcLaws.{Contains-filter, Contains-map, filter-Contains, standing-word, word-copy}
use Rattle.via_paths.specs.PrefixLaws.{copies_of-are}
use Rattle.via_paths.specs.StateLaws.{copy-below}
use Rattle.via_paths.specs.TurnLaws.{arc-stands, turn-arc}

-- the vertices of the network, and the copies
pub graph-vertices : (network : NetworkView) → (graph_of network).vertices ≡ 2 * length network.segments + length (copies_in network)
unfolding graph_of
graph-vertices network = refl

-- both directions of each segment are vertices of the searched graph
pub segments-in-graph : (network : NetworkView) → 2 * length network.segments ≤ (graph_of network).vertices
segments-in-graph network = omega (arith, graph-vertices network)

-- a vertex of the network stands for itself
pub ordinary-stands : (network : NetworkView) (v : ℕ) → v < 2 * length network.segments → stands network v ≡ v
ordinary-stands network v lt =
    let n : ℕ = 2 * length network.segments in
    ap (λ (b : Bool). cond b v (get_or (map last_of (copies_in network)) (v - n) 0)) (lt-ltb v n lt)

-- each vertex of the searched graph stands for one of the network
pub stands-below : (network : NetworkView) → IsSoundNetwork network → (q : ℕ) → q < (graph_of network).vertices → stands network q < 2 * length network.segments
stands-below network sound q lt =
    let n : ℕ = 2 * length network.segments in
    let copies : List (List ℕ) = copies_in network in
    elim (cases_lt q n) [
      | inl low ↦ subst (λ (k : ℕ). k < n) (sym (ordinary-stands network q low)) low
      | inr far ↦
          let within : q - n < length copies = omega (arith, graph-vertices network, lt, far) in
          let word : List ℕ = get_or copies (q - n) [] in
          let among : Contains copies word = Contains_get copies (q - n) word (slice_get-get_or copies (q - n) [] within) in
          let below : last_of word < n = copy-below n network.forbidden copies (copies_of-are network.forbidden) sound.ordinary word among in
          subst (λ (k : ℕ). k < n) (sym (standing-word n copies q ∙ ap last_of (word-copy n copies q far))) below
    ]

-- each turn is of two vertices
all-below : (n : ℕ) (turns : List (ℕ × ℕ)) → AllInRange n turns → All (λ t. (t.0 < n) × (t.1 < n)) turns
all-below n turns in_range = λ k d lt.
    let t : ℕ × ℕ = get_or turns k d in
    in_range k t.0 t.1 (slice_get-get_or turns k d lt)

-- the turns are the first arcs
pub turns-in-graph : (network : NetworkView) → length network.turns ≤ length (graph_of network).arcs
unfolding graph_of
turns-in-graph network =
    let n : ℕ = 2 * length network.segments in
    let copies : List (List ℕ) = copies_in network in
    let first : List (ℕ × ℕ) = map {A = ℕ × ℕ} {B = ℕ × ℕ} (λ turn. (turn.0, onward n copies (turn.0 ∷ []) turn.1)) network.turns in
    let many : length first ≡ length network.turns = length-map {A = ℕ × ℕ} {B = ℕ × ℕ} network.turns (λ turn. (turn.0, onward n copies (turn.0 ∷ []) turn.1)) in
    let all = length-append first (copy_arcs n network.forbidden copies network.turns n copies) in
    omega (arith, many, all)

pub turn-in-graph : (network : NetworkView) → IsSoundNetwork network → (i d e : ℕ) → IsArc (turn_graph network) i d e → (q : ℕ) × IsArc (graph_of network) i d q × (stands network q ≡ e)
unfolding graph_of
turn-in-graph network sound i d e at =
    let n : ℕ = 2 * length network.segments in
    turn-arc n network.forbidden (copies_in network) network.turns sound.long (all-below n network.turns sound.in_range) i d e at

-- an element of two lists is one of the first, or among the second
get-behind : {X : Type 0} (xs ys : List X) (k : ℕ) (x : X) → slice_get (xs ++ ys) k ≡ Some x → (slice_get xs k ≡ Some x) ⊎ Contains ys x
get-behind [] ys k x at = inr (Contains_get ys k x at)
get-behind (y ∷ xs) ys zero x at = inl at
get-behind (y ∷ xs) ys (suc k) x at = get-behind xs ys k x at

-- the arcs out of copies leave no vertex before the first of them
copy-tail : (n : ℕ) (sequences copies : List (List ℕ)) (turns : List (ℕ × ℕ)) (words : List (List ℕ)) (from : ℕ) (a : ℕ × ℕ)
    → Contains (copy_arcs n sequences copies turns from words) a → from ≤ a.0
copy-tail n sequences copies turns [] from a among = absurd (omega (arith, among.1))
copy-tail n sequences copies turns (word ∷ words) from a among =
    elim (Contains-append_cases (arcs_out n sequences copies turns from word) (copy_arcs n sequences copies turns (from + 1) words) a among) [
      | inl here ↦
          let its = Contains-map {X = ℕ × ℕ} {Y = ℕ × ℕ} (λ turn. (from, onward n copies word turn.1)) (filter (goes_on sequences word) turns) a here in
          let tail : a.0 ≡ from = ap (λ (b : ℕ × ℕ). b.0) its.2 in
          omega (arith, tail)
      | inr later ↦ let less : from + 1 ≤ a.0 = copy-tail n sequences copies turns words (from + 1) a later in omega (arith, less)
    ]

-- an arc out of a vertex of the network is a turn
pub arc-is-turn : (network : NetworkView) → IsSoundNetwork network → (i d q : ℕ) → d < 2 * length network.segments → IsArc (graph_of network) i d q → IsArc (turn_graph network) i d (stands network q)
unfolding graph_of
arc-is-turn network sound i d q lt at =
    let n : ℕ = 2 * length network.segments in
    let copies : List (List ℕ) = copies_in network in
    let first : List (ℕ × ℕ) = map {A = ℕ × ℕ} {B = ℕ × ℕ} (λ turn. (turn.0, onward n copies (turn.0 ∷ []) turn.1)) network.turns in
    let many : length first ≡ length network.turns = length-map {A = ℕ × ℕ} {B = ℕ × ℕ} network.turns (λ turn. (turn.0, onward n copies (turn.0 ∷ []) turn.1)) in
    elim (get-behind first (copy_arcs n network.forbidden copies network.turns n copies) i (d, q) at) [
      | inl ordinary ↦
          let within : i < length network.turns = omega (arith, many, slice_get_within first i (d, q) ordinary) in
          let turn = get_some network.turns i within in
          let arc = turn-in-graph network sound i turn.0.0 turn.0.1 turn.1 in
          let both : (turn.0.0, arc.0) ≡ (d, q) = same_Some (turn.0.0, arc.0) (d, q) (sym arc.1 ∙ at) in
          let tail : turn.0.0 ≡ d = ap (λ (a : ℕ × ℕ). a.0) both in
          let head : turn.0.1 ≡ stands network q = sym arc.2 ∙ ap (λ (a : ℕ × ℕ). stands network a.1) both in
          subst (λ (v : ℕ). IsArc (turn_graph network) i d v) head (subst (λ (v : ℕ). IsArc (turn_graph network) i v turn.0.1) tail turn.1)
      | inr copied ↦ let far : n ≤ d = copy-tail n network.forbidden copies network.turns copies n (d, q) copied in absurd (omega (arith, far, lt))
    ]

-- each arc joins two vertices and stands for a turn
pub arc-for-turn : (network : NetworkView) → IsSoundNetwork network → (i p q : ℕ) → IsArc (graph_of network) i p q
    → (p < (graph_of network).vertices) × (q < (graph_of network).vertices) × (j : ℕ) × IsArc (turn_graph network) j (stands network p) (stands network q)
unfolding graph_of
arc-for-turn network sound i p q at =
    let n : ℕ = 2 * length network.segments in
    let copies : List (List ℕ) = copies_in network in
    let arc : Contains (expanded_arcs n network.forbidden copies network.turns) (p, q) = Contains_get (expanded_arcs n network.forbidden copies network.turns) i (p, q) at in
    let its = arc-stands n network.forbidden copies network.turns sound.long (all-below n network.turns sound.in_range) p q arc in
    let turn = get_Contains network.turns (stands network p, stands network q) its.2 in
    (its.0, its.1, turn.0, turn.1)

pub graph-in-range : (network : NetworkView) → IsSoundNetwork network → AllInRange (graph_of network).vertices (graph_of network).arcs
graph-in-range network sound = λ i p q at. let its = arc-for-turn network sound i p q at in (its.0, its.1)

-- numbers from n on
range-within : (n k q : ℕ) → Contains (range_with_len n k) q → (n ≤ q) × (q < n + k)
range-within n k q among =
    let place = get_Contains (range_with_len n k) q among in
    let few : place.0 < k = omega (arith, slice_get_within (range_with_len n k) place.0 q place.1, length-range_with_len n k) in
    let is : q ≡ n + place.0 = sym (get_or_from_slice_get (range_with_len n k) place.0 q 0 place.1) ∙ get_or-range_with_len n k place.0 0 few in
    (omega (arith, is), omega (arith, is, few))

within-range : (n k q : ℕ) → n ≤ q → q < n + k → Contains (range_with_len n k) q
within-range n k q far lt =
    let few : q - n < k = omega (arith, far, lt) in
    let back : n + (q - n) ≡ q = omega (arith, far) in
    Contains_get (range_with_len n k) (q - n) q
    (get_is (range_with_len n k) (q - n) q (omega (arith, few, length-range_with_len n k)) (get_or-range_with_len n k (q - n) q few ∙ back))

-- the copies of a vertex are those that stand for it, but for itself
pub copy-stands : (network : NetworkView) (v q : ℕ) → Contains (copies_at network v) q → (2 * length network.segments ≤ q) × (q < (graph_of network).vertices) × (stands network q ≡ v)
copy-stands network v q among =
    let n : ℕ = 2 * length network.segments in
    let kept = Contains-filter {X = ℕ} (λ k. stands network k == v) (range_with_len n (length (copies_in network))) q among in
    let within = range-within n (length (copies_in network)) q kept.0 in
    (within.0, omega (arith, graph-vertices network, within.1), eqb-true (stands network q) v kept.1)

pub is-copy : (network : NetworkView) (v q : ℕ) → 2 * length network.segments ≤ q → q < (graph_of network).vertices → stands network q ≡ v → Contains (copies_at network v) q
is-copy network v q far lt is =
    let n : ℕ = 2 * length network.segments in
    let within : q < n + length (copies_in network) = omega (arith, graph-vertices network, lt) in
    filter-Contains {X = ℕ} (λ k. stands network k == v) (range_with_len n (length (copies_in network))) q (within-range n (length (copies_in network)) q far within) (eq-eqb (stands network q) v is)
