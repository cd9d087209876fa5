use Rattle.std.proofs.Common.{◌≡◌, ◌<◌, ◌≤◌, ◌++◌, ◌∷◌, [], ℕ, ℤ, List, length, arith, ap, subst, sym, ◌∙◌, rules}
use Rattle.std.specs.List.Sorted.{IsPermutation, IsSortedByKey, IsStableByKey}
use Rattle.std.specs.Ordering.{int_cmp}
use Rattle.std.proofs.lemmas.Fn.{always_returns_same}
use Rattle.std.proofs.lemmas.List.{length-map, take_all}
use Rattle.list_lemmas.proofs.Fronts.{take-get}
use Rattle.road_turns.specs.DepartureParts.{AreDepartures, departures}
use Rattle.road_segments.specs.Vertex.{vertices}
use Rattle.road_turns.specs.declared.departures.Departure.{Departure}
use Rattle.road_turns.proofs.DepartureLemmas.{AreDepartures-sorted, vertex-at, vertices_in}
use Rattle.road_turns.proofs.departures.by_ids.Goals as goal

-- one vertex more
pub loop-i-preserved : goal.loop-i-preserved
loop-i-preserved c =
    let ds : List Departure = c.sort_by_key.new.self.items in
    let d : Departure = c.index-departure.result.now in
    let lt : c.loop-i.i < length ds = omega arith in
    c.in_ok-push.ensures.items ∙ ap (λ (l : List ℕ). l ++ d.vertex ∷ []) c.loop-i.invariant
    ∙ sym (take-get (vertices_in ds) c.loop-i.i d.vertex (vertex-at ds c.loop-i.i d lt c.index-departure.ensures))

pub returns : goal.returns
returns c =
    let vs = vertices c.args.roads.now in
    let ds : List Departure = c.sort_by_key.new.self.items in
    let all : length (vertices_in ds) ≤ c.loop-i.i = omega (arith, length-map ds (λ (d : Departure). d.vertex)) in
    let key : Departure → ℤ = λ d. d.node in
    let same : IsPermutation (departures vs) ds = subst (λ (l : List Departure). IsPermutation l ds) c.in_ok-all.ensures c.sort_by_key.ensures.permutation in
    let sorted : IsSortedByKey key int_cmp ds = c.in_ok-sort_by_key.ensures.sorted key (always_returns_same _ (λ a r. r ≡ a.0.now.node) _ (λ a r q k. search rules)) in
    let stable : IsStableByKey key int_cmp (departures vs) ds =
    subst (λ (l : List Departure). IsStableByKey key int_cmp l ds) c.in_ok-all.ensures (c.sort_by_key.ensures.stable key (always_returns_same _ (λ a r. r ≡ a.0.now.node) _ (λ a r q k. search rules))) in
    subst (AreDepartures vs) (sym (c.loop-i.invariant ∙ take_all c.loop-i.i (vertices_in ds) all)) (AreDepartures-sorted vs ds same sorted stable)
