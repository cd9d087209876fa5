-- Each turn has one list more.
use Rattle.std.proofs.Common.{◌≡◌, ℕ, ◌+◌, ◌<◌, ◌≤◌, List, arith, ap, length, sym, subst, take, ◌∙◌}
use Rattle.std.specs.List.{AllZip}
use Rattle.std.proofs.lemmas.List.{take_all}
use Rattle.list_lemmas.proofs.Fronts.{all_zip-more}
use Rattle.search_graph.specs.declared.costs.WeightDurLen.{WeightDurLen}
use Rattle.search_graph.specs.declared.ends.Start.{Start}
use Rattle.edge_graph.specs.NetworkView.{NetworkView}
use Rattle.road_walks.specs.Between.{states_of}
use Rattle.road_walks.specs.BetweenParts.{AreStartsAt}
use Rattle.road_walks.proofs.StateLemmas.{read-is, state-read}
use Rattle.road_walks.proofs.state_ends.starts_by_state.Goals as goal

-- what was read is a state of the place
pub starts_at-requires-clause-state : goal.starts_at-requires-clause-state
starts_at-requires-clause-state c =
    let network = c.args.under.now.road.network in
    let states : List ℕ = c.in_ok-states.states.items in
    let are = c.in_ok-states.ensures.states ∙ ap (λ (n : NetworkView). states_of n c.args.from) c.network.ensures in
    let lt : c.loop-number.number < length states = omega (arith, c.loop-number-test.true, c.len-number-end.ensures) in
    read-is network c.args.from states are c.loop-number.number c.index.result.now lt c.index.ensures

pub loop-number-preserved : goal.loop-number-preserved
loop-number-preserved c =
    let under = c.args.under.now in
    let n = under.frame.graph.vertices in
    let place = c.args.from in
    let k : ℕ = c.loop-number.number in
    let d : ℕ = c.index.result.now in
    let states : List ℕ = c.in_ok-states.states.items in
    let are = c.in_ok-states.ensures.states ∙ ap (λ (m : NetworkView). states_of m place) c.network.ensures in
    let lt : k < length states = omega (arith, c.loop-number-test.true, c.len-number-end.ensures) in
    subst (λ (lists : List (List (Start WeightDurLen))). AllZip (AreStartsAt n under.road place) (take (k + 1) (states_of under.road.network place)) lists) (sym {A = List (List (Start WeightDurLen))} c.in_ok-push.ensures.items)
    (all_zip-more (AreStartsAt n under.road place) (states_of under.road.network place) c.loop-number.lists.items k d c.of.result c.loop-number.invariant (state-read under.road.network place states are k d lt c.index.ensures)
    (subst (λ (list : List (Start WeightDurLen)). AreStartsAt n under.road place d list) (sym c.of.ensures) (record { all = c.in_ok-starts.ensures.all; fit = c.in_ok-starts.ensures.fit })))

-- at the end all states have theirs
pub returns : goal.returns
returns c =
    let under = c.args.under.now in
    let place = c.args.from in
    let all : List ℕ = states_of under.road.network place in
    let many = ap (length {A = ℕ}) (c.in_ok-states.ensures.states ∙ ap (λ (m : NetworkView). states_of m place) c.network.ensures) in
    let le : length all ≤ c.loop-number.number = omega (arith, many, c.loop-number-test.false, c.len-number-end.ensures) in
    subst (λ (front : List ℕ). AllZip (AreStartsAt under.frame.graph.vertices under.road place) front c.loop-number.lists.items) (take_all c.loop-number.number all le) c.loop-number.invariant
