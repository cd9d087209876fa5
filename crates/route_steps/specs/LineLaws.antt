-- How many points a walk's line has: one more than the walk has vertices.
use Rattle.std.proofs.Common.{◌≡◌, ℕ, suc, ◌+◌, ◌-◌, ◌*◌, ◌<◌, ◌≤◌, ◌≤ℤ◌, ◌-ℤ◌, Bool, true, false, inl, inr, List, [], ◌∷◌, ◌++◌, All, Option, Some, arith, ap, ap₂, length, length-append, refl, take, ◌∙◌}
use Rattle.std.specs.Prelude.{ℤ, pos, negsuc, int_le, option_map}
use Rattle.std.specs.List.{cons_option, filter_map}
use Rattle.std.specs.Option.{option_and_then, option_to_list}
use Rattle.std.proofs.lemmas.Int.{ints}
use Rattle.std.proofs.lemmas.List.{length-take-le}
use Rattle.std.proofs.lemmas.List.Elements.{All-head, All-tail, All-take}
use Rattle.list_lemmas.proofs.Between.{LiesBetween, between-add, between-part, rounded_part}
use Rattle.list_lemmas.proofs.Gets.{get_some}
use lib.Dec.{T}
use Rattle.road_base.specs.Earth.{IsOnEarth}
use Rattle.road_base.specs.Points.{test, at_most, join, on_earth, point_at}
use Rattle.road_base.specs.declared.coordinates.Point.{Point}
use Rattle.road_base.specs.declared.segments.Place.{Place}
use Rattle.geo_integer.specs.Position.{position_of}
use Rattle.geo_integer.specs.Project.{coordinate_at, position_at}
use Rattle.road_segments.specs.Laws.{length-vertices}
use Rattle.edge_graph.specs.NetworkView.{NetworkView}
use Rattle.road_segments.specs.Segment.{Segment}
use Rattle.road_segments.specs.Vertex.{Vertex, vertices}
use Rattle.road_places.specs.Places.{IsPlaceOn}
use Rattle.route_steps.specs.Points.{end_of, point_of, point_on, points_along}

test-holds : (b : Bool) (holds : T b) → test b ≡ Some holds
test-holds true holds = refl
test-holds false holds = elim holds [ ]

at_most-holds : (a b : ℤ) (holds : a ≤ℤ b) → at_most a b ≡ Some holds
at_most-holds a b holds = ap (option_map (λ h. record { le = h })) (test-holds (int_le a b) holds.le)

on_earth-holds : (lon lat : ℤ) (there : IsOnEarth lon lat) → on_earth lon lat ≡ Some there
on_earth-holds lon lat there =
    ap₂ (λ w e. join w e (at_most (negsuc 89999999) lat) (at_most lat (pos 90000000))) (at_most-holds (negsuc 179999999) lon there.west) (at_most-holds lon (pos 180000000) there.east)
    ∙ ap₂ (λ s n. join (Some there.west) (Some there.east) s n) (at_most-holds (negsuc 89999999) lat there.south) (at_most-holds lat (pos 90000000) there.north)

-- the point where a point lies is that point
pub point_of-position : (p : Point) → point_of (position_of p) ≡ Some p
unfolding point_at
point_of-position p = ap (option_map (λ there. record { lon = p.lon; lat = p.lat; in_range = there })) (on_earth-holds p.lon p.lat p.in_range)

-- what lies between two numbers within bounds is within them
within-bounds : (low high a b c : ℤ) → low ≤ℤ a → a ≤ℤ high → low ≤ℤ b → b ≤ℤ high → LiesBetween a b c → (low ≤ℤ c) × (c ≤ℤ high)
within-bounds low high a b c h k l m (inl up) = (omega (arith, ints, up.0), omega (arith, ints, up.1))
within-bounds low high a b c h k l m (inr down) = (omega (arith, ints, down.0), omega (arith, ints, down.1))

coordinate-within : (low high a b : ℤ) (at : ℕ) → at ≤ 1024 → low ≤ℤ a → a ≤ℤ high → low ≤ℤ b → b ≤ℤ high → (low ≤ℤ coordinate_at a b at) × (coordinate_at a b at ≤ℤ high)
coordinate-within low high a b at within h k l m =
    within-bounds low high a b (coordinate_at a b at) h k l m (between-add a b (rounded_part (b -ℤ a) at) (between-part (b -ℤ a) at within))

-- the point at a place of a segment
point-at-place : (from to : Point) (at : ℕ) → at ≤ 1024 → (point : Point) × (point_of (position_at (position_of from) (position_of to) at) ≡ Some point)
point-at-place from to at within =
    let across = coordinate-within (negsuc 179999999) (pos 180000000) from.lon to.lon at within from.in_range.west from.in_range.east to.in_range.west to.in_range.east in
    let up = coordinate-within (negsuc 89999999) (pos 90000000) from.lat to.lat at within from.in_range.south from.in_range.north to.in_range.south to.in_range.north in
    let point : Point = record {
      lon = coordinate_at from.lon to.lon at;
      lat = coordinate_at from.lat to.lat at;
      in_range = record { west = across.0; east = across.1; south = up.0; north = up.1 };
    } in
    (point, point_of-position point)

point_on-there : (network : NetworkView) (place : Place) → IsPlaceOn network place → (point : Point) × (point_on network.segments place ≡ Some point)
point_on-there network place h =
    let segment = get_some network.segments place.segment h.on_segment in
    let point = point-at-place segment.0.from segment.0.to place.at h.within in
    (point.0, ap (option_and_then (λ (s : Segment). point_of (position_at (position_of s.from) (position_of s.to) place.at))) segment.1 ∙ point.1)

one-point : (o : Option Point) (point : Point) → o ≡ Some point → length (option_to_list o) ≡ 1
one-point o point e = ap (λ (x : Option Point). length (option_to_list x)) e

length-ends : (segments : List Segment) (walk : List ℕ) → All (λ v. v < 2 * length segments) walk → length (filter_map (end_of segments) walk) ≡ length walk
length-ends segments [] h = refl
length-ends segments (v ∷ walk) h =
    let below = All-head (λ (v : ℕ). v < 2 * length segments) v walk h in
    let vertex = get_some (vertices segments) v (omega (arith, length-vertices segments, below)) in
    ap (λ (o : Option Vertex). length (cons_option (option_map (λ (x : Vertex). x.to) o) (filter_map (end_of segments) walk))) vertex.1
    ∙ ap suc (length-ends segments walk (All-tail (λ (v : ℕ). v < 2 * length segments) v walk h))

pub length-points_along : (network : NetworkView) (p q : Place) (walk : List ℕ) → IsPlaceOn network p → IsPlaceOn network q → All (λ v. v < 2 * length network.segments) walk → 0 < length walk
    → length (points_along network.segments p q walk) ≡ length walk + 1
length-points_along network p q walk from to all some =
    let first = point_on-there network p from in
    let last = point_on-there network q to in
    let front : List ℕ = take (length walk - 1) walk in
    let ends : length (filter_map (end_of network.segments) front) ≡ length front = length-ends network.segments front (All-take (λ v. v < 2 * length network.segments) (length walk - 1) walk all) in
    let counted : length front ≡ length walk - 1 = length-take-le (length walk - 1) walk (omega arith) in
    length-append (option_to_list (point_on network.segments p)) (filter_map (end_of network.segments) front ++ option_to_list (point_on network.segments q))
    ∙ ap (λ n. length (option_to_list (point_on network.segments p)) + n) (length-append (filter_map (end_of network.segments) front) (option_to_list (point_on network.segments q)))
    ∙ omega (arith, one-point (point_on network.segments p) first.0 first.1, one-point (point_on network.segments q) last.0 last.1, ends, counted)
