-- What the vertices and turns of a network cost, one by one.
use Rattle.std.proofs.Common.{◌≡◌, ◌≢◌, ℕ, ℤ, suc, Bool, true, false, cond, get_or, mod-lt, ◌+◌, ◌*◌, ◌/◌, ◌<◌, ◌≤◌, ◌+ℤ◌, ◌-ℤ◌, pos, max, List, [], ◌∷◌, ◌++◌, length, drop, map, Option, Some, arith, refl, sym, ap, ◌∙◌, append_assoc}
use Rattle.std.specs.Prelude.{option_map, unsigned_abs, nat_le, ◌==◌}
use Rattle.std.specs.Int.{int_div_euclid}
use Rattle.std.specs.List.{slice_get}
use Rattle.std.proofs.lemmas.Int.{ints}
use Rattle.std.proofs.lemmas.Bool.Decides.{nat_tests}
use Rattle.std.proofs.Math.Seq.{drop-cons}
use Rattle.std.proofs.lemmas.Option.{get_or_from_slice_get, same_Some, slice_get-map, slice_get_within}
use Rattle.geo_integer.specs.Bearing.{bearing_of, modifier_of}
use Rattle.geo_integer.specs.Plane.{cosine_of, length_of, plane_between, squared}
use Rattle.geo_integer.specs.Position.{Position, position_of}
use Rattle.geo_integer.specs.Root.{root_of}
use Rattle.road_base.specs.declared.coordinates.Point.{Point}
use Rattle.search_graph.specs.declared.costs.WeightDurLen.{WeightDurLen}
use Rattle.list_lemmas.proofs.Gets.{get_some}
use Rattle.road_segments.specs.Segment.{Segment}
use Rattle.edge_graph.specs.NetworkView.{NetworkView, vertices_of}
use Rattle.road_turns.specs.Turn.{exits}
use Rattle.road_segments.specs.Vertex.{Vertex, against, along, opposite, vertices}
use Rattle.road_segments.specs.Laws.{vertices-even, vertices-odd}
use Rattle.metric_make.specs.MetricOf.{bearing_along, bend_penalty, cost_at, turn_cost_at, turn_cost_under, vertex_cost}
use Rattle.metric_make.specs.TurnParts.{row_at, turning_at, waiting_at}
use Rattle.traffic_files.specs.declared.rows.SpeedRow.{SpeedRow}
use Rattle.traffic_files.specs.declared.rows.TurnRow.{TurnRow}
use Rattle.way_profile.specs.Vehicle.{penalty_of}

-- an element, and what stands behind it
drop-get : {X : Type 0} (xs : List X) (k : ℕ) (x : X) → slice_get xs k ≡ Some x → drop k xs ≡ x ∷ drop (suc k) xs
drop-get {X} xs k x e = drop-cons xs k x (slice_get_within xs k x e) ∙ ap (λ (y : X). y ∷ drop (suc k) xs) (get_or_from_slice_get xs k x x e)

apart-same : (x y : ℤ) → unsigned_abs (x -ℤ y) ≡ unsigned_abs (y -ℤ x)
apart-same x y = omega (arith, ints)

sum-same : (x y : ℤ) → x +ℤ y ≡ y +ℤ x
sum-same x y = omega (arith, ints)

-- the plane value from the differences of longitude and latitude and the sum of the latitudes
abbrev plane_by : ℕ → ℕ → ℤ → ℕ
plane_by dx dy sum = squared (dx * cosine_of (int_div_euclid sum (pos 2))) + squared (dy * 65536)

plane_between-same : (a b : Position) → plane_between a b ≡ plane_between b a
plane_between-same a b =
    ap (λ (n : ℕ). plane_by n (unsigned_abs (b.lat -ℤ a.lat)) (a.lat +ℤ b.lat)) (apart-same b.lon a.lon)
    ∙ ap (λ (n : ℕ). plane_by (unsigned_abs (a.lon -ℤ b.lon)) n (a.lat +ℤ b.lat)) (apart-same b.lat a.lat)
    ∙ ap (plane_by (unsigned_abs (a.lon -ℤ b.lon)) (unsigned_abs (a.lat -ℤ b.lat))) (sum-same a.lat b.lat)

-- a segment is as long one way as the other
pub length_of-same : (a b : Position) → length_of a b ≡ length_of b a
length_of-same a b = ap (λ (n : ℕ). max 1 (root_of n * 111195 / 6553600000)) (plane_between-same a b)

-- the costs of both directions of one more segment
pub segment-step : (by_distance : Bool) (speeds : List SpeedRow) (segments : List Segment) (s decimetres : ℕ) (from to : Point) (costs new : List (Option WeightDurLen)) (one other : Option WeightDurLen) (total : List (Option WeightDurLen)) → s < length segments
    → option_map {U = Point × Point} (λ x. (x.from, x.to)) (slice_get segments s) ≡ Some (from, to)
    → decimetres ≡ length_of (position_of from) (position_of to)
    → option_map (cost_at by_distance speeds decimetres) (slice_get (vertices segments) (2 * s)) ≡ Some one
    → option_map (cost_at by_distance speeds decimetres) (slice_get (vertices segments) (2 * s + 1)) ≡ Some other
    → new ≡ (costs ++ one ∷ []) ++ other ∷ []
    → costs ++ map (vertex_cost by_distance speeds) (vertices (drop s segments)) ≡ total
    → new ++ map (vertex_cost by_distance speeds) (vertices (drop (s + 1) segments)) ≡ total
segment-step by_distance speeds segments s decimetres from to costs new one other total lt ends long first second both so_far =
    let g = get_some segments s lt in
    let x = g.0 in
    let up : suc s ≡ s + 1 = omega arith in
    let ends_are : (x.from, x.to) ≡ (from, to) = same_Some _ _ (sym (ap (option_map {U = Point × Point} (λ (y : Segment). (y.from, y.to))) g.1) ∙ ends) in
    let from_is : x.from ≡ from = ap (λ (e : Point × Point). e.0) ends_are in
    let to_is : x.to ≡ to = ap (λ (e : Point × Point). e.1) ends_are in
    let long_is : decimetres ≡ length_of (position_of x.from) (position_of x.to) =
    long ∙ ap (λ (p : Point). length_of (position_of p) (position_of to)) (sym from_is) ∙ ap (λ (p : Point). length_of (position_of x.from) (position_of p)) (sym to_is) in
    let one_is : one ≡ vertex_cost by_distance speeds (along x) =
    same_Some _ _ (sym first ∙ ap (option_map (cost_at by_distance speeds decimetres)) (vertices-even segments s x (2 * s) g.1 refl)) ∙ ap (λ (n : ℕ). cost_at by_distance speeds n (along x)) long_is in
    let other_is : other ≡ vertex_cost by_distance speeds (against x) =
    same_Some _ _ (sym second ∙ ap (option_map (cost_at by_distance speeds decimetres)) (vertices-odd segments s x (2 * s + 1) g.1 refl))
    ∙ ap (λ (n : ℕ). cost_at by_distance speeds n (against x)) (long_is ∙ length_of-same (position_of x.from) (position_of x.to)) in
    let rest = map (vertex_cost by_distance speeds) (vertices (drop (s + 1) segments)) in
    let front : map (vertex_cost by_distance speeds) (vertices (drop s segments)) ≡ vertex_cost by_distance speeds (along x) ∷ vertex_cost by_distance speeds (against x) ∷ rest =
    ap (λ (l : List Segment). map (vertex_cost by_distance speeds) (vertices l)) (drop-get segments s x g.1 ∙ ap (λ (k : ℕ). x ∷ drop k segments) up) in
    ap (λ (l : List (Option WeightDurLen)). l ++ rest) both
    ∙ append_assoc (costs ++ one ∷ []) (other ∷ []) rest
    ∙ append_assoc costs (one ∷ []) (other ∷ rest)
    ∙ ap (λ (o : Option WeightDurLen). costs ++ o ∷ other ∷ rest) one_is
    ∙ ap (λ (o : Option WeightDurLen). costs ++ vertex_cost by_distance speeds (along x) ∷ o ∷ rest) other_is
    ∙ ap (λ (l : List (Option WeightDurLen)). costs ++ l) (sym front)
    ∙ so_far

-- the bearings of both directions of one more segment
pub bearings-step : (segments : List Segment) (s : ℕ) (from to : Point) (bearings new : List ℕ) (one other : ℕ) (total : List ℕ) → s < length segments
    → option_map {U = Point × Point} (λ x. (x.from, x.to)) (slice_get segments s) ≡ Some (from, to)
    → one ≡ bearing_of (position_of from) (position_of to)
    → other ≡ bearing_of (position_of to) (position_of from)
    → new ≡ (bearings ++ one ∷ []) ++ other ∷ []
    → bearings ++ map bearing_along (vertices (drop s segments)) ≡ total
    → new ++ map bearing_along (vertices (drop (s + 1) segments)) ≡ total
bearings-step segments s from to bearings new one other total lt ends first second both so_far =
    let g = get_some segments s lt in
    let x = g.0 in
    let up : suc s ≡ s + 1 = omega arith in
    let ends_are : (x.from, x.to) ≡ (from, to) = same_Some _ _ (sym (ap (option_map {U = Point × Point} (λ (y : Segment). (y.from, y.to))) g.1) ∙ ends) in
    let one_is : one ≡ bearing_along (along x) = first ∙ ap (λ (e : Point × Point). bearing_of (position_of e.0) (position_of e.1)) (sym ends_are) in
    let other_is : other ≡ bearing_along (against x) = second ∙ ap (λ (e : Point × Point). bearing_of (position_of e.1) (position_of e.0)) (sym ends_are) in
    let rest = map bearing_along (vertices (drop (s + 1) segments)) in
    let front : map bearing_along (vertices (drop s segments)) ≡ bearing_along (along x) ∷ bearing_along (against x) ∷ rest =
    ap (λ (l : List Segment). map bearing_along (vertices l)) (drop-get segments s x g.1 ∙ ap (λ (k : ℕ). x ∷ drop k segments) up) in
    ap (λ (l : List ℕ). l ++ rest) both
    ∙ append_assoc (bearings ++ one ∷ []) (other ∷ []) rest
    ∙ append_assoc bearings (one ∷ []) (other ∷ rest)
    ∙ ap (λ (o : ℕ). bearings ++ o ∷ other ∷ rest) one_is
    ∙ ap (λ (o : ℕ). bearings ++ bearing_along (along x) ∷ o ∷ rest) other_is
    ∙ ap (λ (l : List ℕ). bearings ++ l) (sym front)
    ∙ so_far

-- the bearing of a vertex that was read
pub bearing-read : (vs : List Vertex) (bearings : List ℕ) (v : ℕ) (x : Vertex) → bearings ≡ map bearing_along vs → slice_get vs v ≡ Some x → get_or bearings v 0 ≡ bearing_along x
bearing-read vs bearings v x are at =
    get_or_from_slice_get bearings v (bearing_along x) 0 (ap (λ (l : List ℕ). slice_get l v) are ∙ slice_get-map bearing_along vs v ∙ ap (option_map bearing_along) at)

pub bearing-bound : (x : Vertex) → bearing_along x < 360
bearing-bound x = mod-lt _ (omega arith)

module _ (network : NetworkView) (from to : ℕ) (d e : Vertex) (at : slice_get (vertices_of network) from ≡ Some d) (next : slice_get (vertices_of network) to ≡ Some e) where
  turning-is : turning_at network from to (slice_get (vertices_of network) from) (slice_get (vertices_of network) to)
      ≡ cond (to == opposite from) network.profile.u_turn_penalty (bend_penalty network.profile (exits (vertices_of network) from) d e)
  turning-is = ap (λ (o : Option Vertex). turning_at network from to o (slice_get (vertices_of network) to)) at ∙ ap (λ (o : Option Vertex). turning_at network from to (Some d) o) next

  -- a turn back
  pub turning-back : to ≡ opposite from → turning_at network from to (slice_get (vertices_of network) from) (slice_get (vertices_of network) to) ≡ network.profile.u_turn_penalty
  turning-back same =
      let test : (to == opposite from) ≡ true = grind (arith, nat_tests, same) in
      turning-is ∙ ap (λ (b : Bool). cond b network.profile.u_turn_penalty (bend_penalty network.profile (exits (vertices_of network) from) d e)) test

  -- a turn where there is no choice of exits
  turning-on : to ≢ opposite from → turning_at network from to (slice_get (vertices_of network) from) (slice_get (vertices_of network) to) ≡ bend_penalty network.profile (exits (vertices_of network) from) d e
  turning-on apart =
      let test : (to == opposite from) ≡ false = grind (arith, nat_tests, apart) in
      turning-is ∙ ap (λ (b : Bool). cond b network.profile.u_turn_penalty (bend_penalty network.profile (exits (vertices_of network) from) d e)) test

  pub turning-along : to ≢ opposite from → exits (vertices_of network) from < 2 → turning_at network from to (slice_get (vertices_of network) from) (slice_get (vertices_of network) to) ≡ 0
  turning-along apart few =
      let test : nat_le 2 (exits (vertices_of network) from) ≡ false = grind (arith, nat_tests, few) in
      turning-on apart ∙ ap (λ (b : Bool). cond b (penalty_of network.profile (modifier_of (bearing_along d) (bearing_along e) false)) 0) test

  -- a turn where there is one
  pub turning-bend : to ≢ opposite from → 2 ≤ exits (vertices_of network) from
      → turning_at network from to (slice_get (vertices_of network) from) (slice_get (vertices_of network) to) ≡ penalty_of network.profile (modifier_of (bearing_along d) (bearing_along e) false)
  turning-bend apart many =
      let test : nat_le 2 (exits (vertices_of network) from) ≡ true = grind (arith, nat_tests, many) in
      turning-on apart ∙ ap (λ (b : Bool). cond b (penalty_of network.profile (modifier_of (bearing_along d) (bearing_along e) false)) 0) test

  -- a turn costs what its row says, or the two parts of the profile's penalty
  pub cost-parts : (rows : List TurnRow) → turn_cost_at network rows from to (slice_get (vertices_of network) from) (slice_get (vertices_of network) to)
      ≡ turn_cost_under network.profile.by_distance
      (turning_at network from to (slice_get (vertices_of network) from) (slice_get (vertices_of network) to) + waiting_at network (slice_get (vertices_of network) from))
      (row_at rows (slice_get (vertices_of network) from) (slice_get (vertices_of network) to))
  cost-parts rows =
      ap (λ (o : Option Vertex). turn_cost_at network rows from to o (slice_get (vertices_of network) to)) at
      ∙ ap (λ (o : Option Vertex). turn_cost_at network rows from to (Some d) o) next
      ∙ ap (λ (o : Option Vertex). turn_cost_under network.profile.by_distance (turning_at network from to (Some d) o + waiting_at network (Some d)) (row_at rows (Some d) o)) (sym next)
      ∙ ap (λ (o : Option Vertex). turn_cost_under network.profile.by_distance (turning_at network from to o (slice_get (vertices_of network) to) + waiting_at network o) (row_at rows o (slice_get (vertices_of network) to))) (sym at)

-- the cost of one more turn
pub turn-step : (f : ℕ × ℕ → WeightDurLen) (arcs : List (ℕ × ℕ)) (i from to : ℕ) (costs new : List WeightDurLen) (cost : WeightDurLen) (total : List WeightDurLen)
    → slice_get arcs i ≡ Some (from, to) → cost ≡ f (from, to) → new ≡ costs ++ cost ∷ []
    → costs ++ map f (drop i arcs) ≡ total
    → new ++ map f (drop (i + 1) arcs) ≡ total
turn-step f arcs i from to costs new cost total at is added so_far =
    let up : suc i ≡ i + 1 = omega arith in
    let rest = map f (drop (i + 1) arcs) in
    let front : map f (drop i arcs) ≡ f (from, to) ∷ rest =
    ap (λ (l : List (ℕ × ℕ)). map f l) (drop-get arcs i (from, to) at ∙ ap (λ (k : ℕ). (from, to) ∷ drop k arcs) up) in
    ap (λ (l : List WeightDurLen). l ++ rest) added
    ∙ append_assoc costs (cost ∷ []) rest
    ∙ ap (λ (c : WeightDurLen). costs ++ c ∷ rest) is
    ∙ ap (λ (l : List WeightDurLen). costs ++ l) (sym front)
    ∙ so_far
