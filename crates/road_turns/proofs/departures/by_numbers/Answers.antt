use Rattle.std.proofs.Common.{◌≡◌, ◌<◌, ◌≤◌, ◌++◌, ◌∷◌, [], ℕ, List, length, map, arith, ap, subst, sym, ◌∙◌, rules}
use Rattle.std.specs.List.Sorted.{IsPermutation, IsSortedByKey, IsStableByKey}
use Rattle.std.specs.Ordering.{int_cmp}
use Rattle.std.proofs.lemmas.Fn.{always_returns_same}
use Rattle.std.proofs.lemmas.List.{get_or-map, length-map, take_all}
use Rattle.list_lemmas.proofs.Fronts.{take-get}
use Rattle.road_turns.specs.DepartureParts.{AreDepartures, departure_of}
use Rattle.road_turns.specs.declared.departures.Departure.{Departure}
use Rattle.road_turns.proofs.DepartureLemmas.{AreDepartures-sorted, vertex-at, vertices_in}
use Rattle.road_turns.proofs.NumberLemmas.{node_in, same-departures, sorted-departures, stable-departures}
use Rattle.road_turns.proofs.departures.by_numbers.Goals as goal

-- one vertex more
pub loop-i-preserved : goal.loop-i-preserved
loop-i-preserved c =
    let ns : List ℕ = c.sort_by_key.new.self.items in
    let ds : List Departure = map departure_of ns in
    let i : ℕ = c.loop-i.i in
    let n : ℕ = c.index.result.now in
    let within : i < length ns = omega arith in
    let lt : i < length ds = omega (arith, within, length-map ns departure_of) in
    let is = ap departure_of c.index.ensures ∙ sym (get_or-map departure_of ns i n (departure_of n) within) in
    c.in_ok-push.ensures.items ∙ ap (λ (l : List ℕ). l ++ (departure_of n).vertex ∷ []) c.loop-i.invariant
    ∙ sym (take-get (vertices_in ds) i (departure_of n).vertex (vertex-at ds i (departure_of n) lt is))

pub returns : goal.returns
returns c = λ vs given_is.
    let given : List ℕ = c.args.numbers.items in
    let ns : List ℕ = c.sort_by_key.new.self.items in
    let ds : List Departure = map departure_of ns in
    let all : length (vertices_in ds) ≤ c.loop-i.i = omega (arith, length-map ds (λ (d : Departure). d.vertex), length-map ns departure_of) in
    let same = c.sort_by_key.ensures.permutation in
    let sorted : IsSortedByKey node_in int_cmp ns = c.in_ok-sort_by_key.ensures.sorted node_in (always_returns_same _ (λ a r. r ≡ node_in a.0.now) _ (λ a r q k. search rules)) in
    let stable : IsStableByKey node_in int_cmp given ns = c.sort_by_key.ensures.stable node_in (always_returns_same _ (λ a r. r ≡ node_in a.0.now) _ (λ a r q k. search rules)) in
    let one = subst (λ (l : List Departure). IsPermutation l ds) given_is (same-departures given ns same sorted stable) in
    let two = sorted-departures given ns same sorted stable in
    let three = subst (λ (l : List Departure). IsStableByKey (λ (d : Departure). d.node) int_cmp l ds) given_is (stable-departures given ns same sorted stable) in
    subst (AreDepartures vs) (sym (c.loop-i.invariant ∙ take_all c.loop-i.i (vertices_in ds) all)) (AreDepartures-sorted vs ds one two three)
