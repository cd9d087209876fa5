use Rattle.std.proofs.Common.{◌≡◌, ◌<◌, ◌≤◌, ◌++◌, ◌∷◌, [], ℕ, List, Some, length, map, take, arith, rules, ap, sym, ◌∙◌, w64, FitsSigned}
use Rattle.std.specs.List.{slice_get}
use Rattle.std.proofs.lemmas.Int.{to_z-of_z}
use Rattle.std.proofs.lemmas.List.{map-append, take_all}
use Rattle.list_lemmas.proofs.Fronts.{take-get}
use Rattle.list_lemmas.proofs.Gets.{get_some}
use Rattle.road_turns.specs.DepartureParts.{departure_of, departures}
use Rattle.road_segments.specs.Laws.{length-vertices}
use Rattle.road_segments.specs.Vertex.{vertices}
use Rattle.road_turns.specs.declared.departures.Departure.{Departure}
use Rattle.road_turns.proofs.DepartureLemmas.{departure-at, length-departures}
use Rattle.road_turns.specs.VertexLaws.{field-at}
use Rattle.road_turns.proofs.departures.numbers_of.Goals as goal

-- one vertex more
pub loop-vertex-preserved : goal.loop-vertex-preserved
loop-vertex-preserved c =
    let vs = vertices c.args.roads.now in
    let v = c.loop-vertex.vertex in
    let n : ℕ = c.in-Some.number in
    let within : v < length vs = omega (arith, length-vertices c.args.roads.now, c.len-count.ensures.value) in
    let x = get_some vs v within in
    let node : x.0.tail ≡ c.tail.result = field-at (λ y. y.tail) vs v x.0 c.tail.result x.1 c.tail.ensures in
    let departure : Departure = record { node = c.tail.result; vertex = v } in
    let there : slice_get (departures vs) v ≡ Some departure = departure-at vs v x.0 x.1 ∙ ap (λ t. Some (record { node = t; vertex = v })) node in
    let fits : FitsSigned w64 c.tail.result = search rules in
    let is : departure_of n ≡ departure = simp to_z-of_z at c.in-Some.ensures in
    ap (map departure_of) c.in_ok-push.ensures.items ∙ map-append departure_of c.loop-vertex.all.items (n ∷ [])
    ∙ ap (λ (l : List Departure). l ++ departure_of n ∷ []) c.loop-vertex.invariant ∙ ap (λ (d : Departure). take v (departures vs) ++ d ∷ []) is
    ∙ sym (take-get (departures vs) v departure there)

pub returns : goal.returns
returns c =
    let vs = vertices c.args.roads.now in
    let all : length (departures vs) ≤ c.loop-vertex.vertex = omega (arith, length-departures vs, length-vertices c.args.roads.now, c.len-count.ensures.value) in
    c.loop-vertex.invariant ∙ take_all c.loop-vertex.vertex (departures vs) all
