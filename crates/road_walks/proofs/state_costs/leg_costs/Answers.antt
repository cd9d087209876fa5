-- Each turn has one cost more.
use Rattle.std.proofs.Common.{◌≡◌, ℕ, ◌+◌, ◌*◌, ◌/◌, ◌%◌, ◌<◌, ◌≤◌, List, Option, Some, None, get_or, length, arith, sym, subst, ap, ◌∙◌}
use Rattle.std.specs.List.{slice_get}
use Rattle.std.proofs.lemmas.Option.{get_or_from_slice_get}
use Rattle.list_lemmas.proofs.Fronts.{all_zip-length}
use Rattle.list_lemmas.proofs.Gets.{get_is, get_some}
use Rattle.search_graph.specs.declared.costs.WeightDurLen.{WeightDurLen}
use Rattle.edge_graph.specs.NetworkView.{NetworkView}
use Rattle.road_walks.specs.Between.{IsCostBetween, states_of}
use Rattle.road_walks.specs.BetweenParts.{IsRowFromState}
use Rattle.road_walks.proofs.BetweenLemmas.{cost-between}
use Rattle.road_walks.proofs.StateLemmas.{IsCostOf, leg-costs, pair-end, pair-start, pairs-more, row-at, row-value, row-values, state-read, states-some}
use Rattle.road_walks.proofs.state_costs.leg_costs.Goals as goal

-- there is a row for each state
pub index-requires-in-loop-pair-2 : goal.index-requires-in-loop-pair-2
index-requires-in-loop-pair-2 g c =
    let road = c.args.under.now.road in
    let network = road.network in
    let p = c.args.from in
    let q = c.args.to in
    let as_many = all_zip-length (IsRowFromState road p q) (states_of network p) c.in_ok-by_turns.by_turns.items c.in_ok-by_turns.ensures in
    let first = ap (length {A = ℕ}) (c.in_ok-starts.ensures.states ∙ ap (λ (n : NetworkView). states_of n p) c.network-network.ensures) in
    let last = ap (length {A = ℕ}) (c.in_ok-ends.ensures.states ∙ ap (λ (n : NetworkView). states_of n q) c.network-network.ensures) in
    let inside = pair-start (length (states_of network p)) (length (states_of network q)) c.len.result c.len-2.result c.len-in-loop-pair.result c.loop-pair.pair
    (omega (arith, first, c.len.ensures)) (omega (arith, last, c.len-2.ensures)) (omega (arith, last, c.len-in-loop-pair.ensures)) (states-some network q) c.loop-pair-test.true in
    omega (arith, as_many, inside)

-- and in it a value for each state
pub bounds-row-end : goal.bounds-row-end
bounds-row-end g c =
    let road = c.args.under.now.road in
    let network = road.network in
    let p = c.args.from in
    let q = c.args.to in
    let rows : List (List (Option WeightDurLen)) = c.in_ok-by_turns.by_turns.items in
    let row : List (Option WeightDurLen) = c.as_slice-row.result.now in
    let x : ℕ = c.loop-pair.pair / c.len-in-loop-pair.result in
    let as_many = all_zip-length (IsRowFromState road p q) (states_of network p) rows c.in_ok-by_turns.ensures in
    let first = ap (length {A = ℕ}) (c.in_ok-starts.ensures.states ∙ ap (λ (n : NetworkView). states_of n p) c.network-network.ensures) in
    let last = ap (length {A = ℕ}) (c.in_ok-ends.ensures.states ∙ ap (λ (n : NetworkView). states_of n q) c.network-network.ensures) in
    let low : x < length (states_of network p) = pair-start (length (states_of network p)) (length (states_of network q)) c.len.result c.len-2.result c.len-in-loop-pair.result c.loop-pair.pair
    (omega (arith, first, c.len.ensures)) (omega (arith, last, c.len-2.ensures)) (omega (arith, last, c.len-in-loop-pair.ensures)) (states-some network q) c.loop-pair-test.true in
    let high = pair-end (length (states_of network q)) c.len-in-loop-pair-2.result c.loop-pair.pair (omega (arith, last, c.len-in-loop-pair-2.ensures)) (states-some network q) in
    let state = get_some (states_of network p) x low in
    let at : slice_get rows x ≡ Some row = get_is rows x c.index-in-loop-pair-2.result.now (omega (arith, as_many, low)) (sym c.index-in-loop-pair-2.ensures) ∙ ap Some (sym c.as_slice-row.ensures) in
    let many = row-values road p q state.0 row (row-at road p q rows row x state.0 c.in_ok-by_turns.ensures state.1 at) in
    omega (arith, many, high)

pub loop-pair-preserved : goal.loop-pair-preserved
loop-pair-preserved g c =
    let road = c.args.under.now.road in
    let network = road.network in
    let p = c.args.from in
    let q = c.args.to in
    let k : ℕ = c.loop-pair.pair in
    let d : ℕ = c.index.result.now in
    let e : ℕ = c.index-in-loop-pair.result.now in
    let starts : List ℕ = c.in_ok-starts.starts.items in
    let ends : List ℕ = c.in_ok-ends.ends.items in
    let costs : List (Option WeightDurLen) = c.loop-pair.costs.items in
    let rows : List (List (Option WeightDurLen)) = c.in_ok-by_turns.by_turns.items in
    let row : List (Option WeightDurLen) = c.as_slice-row.result.now in
    let value : Option WeightDurLen = c.lesser.result in
    let m : ℕ = length (states_of network q) in
    let l : ℕ = c.len-in-loop-pair.result in
    let r : ℕ = c.len-in-loop-pair-2.result in
    let as_many = all_zip-length (IsRowFromState road p q) (states_of network p) rows c.in_ok-by_turns.ensures in
    let from : starts ≡ states_of network p = c.in_ok-starts.ensures.states ∙ ap (λ (n : NetworkView). states_of n p) c.network-network.ensures in
    let to : ends ≡ states_of network q = c.in_ok-ends.ensures.states ∙ ap (λ (n : NetworkView). states_of n q) c.network-network.ensures in
    let first = ap (length {A = ℕ}) from in
    let last = ap (length {A = ℕ}) to in
    let left : l ≡ m = omega (arith, last, c.len-in-loop-pair.ensures) in
    let right : r ≡ m = omega (arith, last, c.len-in-loop-pair-2.ensures) in
    let low : k / l < length (states_of network p) = pair-start (length (states_of network p)) m c.len.result c.len-2.result l k
    (omega (arith, first, c.len.ensures)) (omega (arith, last, c.len-2.ensures)) left (states-some network q) c.loop-pair-test.true in
    let high : k % r < m = pair-end m r k right (states-some network q) in
    let at_start : slice_get (states_of network p) (k / l) ≡ Some d = state-read network p starts from (k / l) d (omega (arith, first, low)) c.index.ensures in
    let at_end : slice_get (states_of network q) (k % r) ≡ Some e = state-read network q ends to (k % r) e (omega (arith, last, high)) c.index-in-loop-pair.ensures in
    let at_row : slice_get rows (k / l) ≡ Some row = get_is rows (k / l) c.index-in-loop-pair-2.result.now (omega (arith, as_many, low)) (sym c.index-in-loop-pair-2.ensures) ∙ ap Some (sym c.as_slice-row.ensures) in
    let known = row-value road p q row d (k % r) e (row-at road p q rows row (k / l) d c.in_ok-by_turns.ensures at_start at_row) at_end in
    let cost : IsCostBetween road p q d e value = cost-between road p q d e c.in_ok-along.along (get_or row (k % r) None) value c.lesser.ensures c.in_ok-along.ensures known in
    let is_start : get_or (states_of network p) (k / m) 0 ≡ d = ap (λ (x : ℕ). get_or (states_of network p) (k / x) 0) (sym left) ∙ get_or_from_slice_get (states_of network p) (k / l) d 0 at_start in
    let is_end : get_or (states_of network q) (k % m) 0 ≡ e = ap (λ (x : ℕ). get_or (states_of network q) (k % x) 0) (sym right) ∙ get_or_from_slice_get (states_of network q) (k % r) e 0 at_end in
    let here : IsCostOf road p q k value =
    subst (λ (u : ℕ). IsCostBetween road p q u (get_or (states_of network q) (k % m) 0) value) (sym is_start)
    (subst (λ (u : ℕ). IsCostBetween road p q d u value) (sym is_end) cost) in
    let more = pairs-more road p q costs c.push.new.self.items value k c.in_ok-push.ensures.items c.loop-pair.invariant.count c.loop-pair.invariant.each here in
    record { count = more.0; each = more.1 }

-- at the end each pair has its cost
pub returns : goal.returns
returns g c =
    let road = c.args.under.now.road in
    let network = road.network in
    let p = c.args.from in
    let q = c.args.to in
    let first = ap (length {A = ℕ}) (c.in_ok-starts.ensures.states ∙ ap (λ (n : NetworkView). states_of n p) c.network-network.ensures) in
    let last = ap (length {A = ℕ}) (c.in_ok-ends.ensures.states ∙ ap (λ (n : NetworkView). states_of n q) c.network-network.ensures) in
    let a : c.len.result ≡ length (states_of network p) = omega (arith, first, c.len.ensures) in
    let b : c.len-2.result ≡ length (states_of network q) = omega (arith, last, c.len-2.ensures) in
    let all : c.loop-pair.pair ≡ c.len.result * c.len-2.result = omega (arith, c.loop-pair-test.false) in
    let product : c.len.result * c.len-2.result ≡ length (states_of network p) * length (states_of network q) =
    ap (λ (x : ℕ). x * c.len-2.result) a ∙ ap (λ (x : ℕ). length (states_of network p) * x) b in
    leg-costs road p q c.loop-pair.costs.items c.loop-pair.pair (all ∙ product) c.loop-pair.invariant.count c.loop-pair.invariant.each
