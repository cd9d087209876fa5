-- The midpoints of the vertices, segment by segment.
use Rattle.std.proofs.Common.{◌≡◌, ℕ, ℤ, pos, suc, ◌+◌, ◌-◌, ◌*◌, ◌<◌, ◌≤◌, Bool, cond, List, [], ◌∷◌, ◌++◌, length, drop, get_or, map, take, Some, arith, sym, ap, ap₂, ◌∙◌, append_assoc, length-append}
use Rattle.std.specs.Prelude.{option_map}
use Rattle.std.specs.List.{slice_get}
use Rattle.std.proofs.Math.Seq.{drop-cons}
use Rattle.std.proofs.lemmas.Bool.{le-ltb}
use Rattle.std.proofs.lemmas.List.{length-map, map-append}
use Rattle.std.proofs.lemmas.Option.{get_or_from_slice_get, same_Some, slice_get-map, slice_get_within}
use Rattle.list_lemmas.proofs.Fronts.{take-get}
use Rattle.list_lemmas.proofs.Gets.{get_append, get_some}
use Rattle.road_base.specs.declared.coordinates.Point.{Point}
use Rattle.road_segments.specs.Segment.{Segment}
use Rattle.road_segments.specs.Laws.{length-vertices}
use Rattle.road_segments.specs.Vertex.{against, along, vertices}
use Rattle.edge_graph.specs.GraphLaws.{graph-vertices}
use Rattle.edge_graph.specs.NetworkView.{NetworkView, copies_in, graph_of, vertices_of}
use Rattle.via_paths.specs.Expansion.{standing}
use Rattle.via_paths.specs.Forbidden.{last_of}
use Rattle.customized.specs.Framing.{midpoint_between, midpoint_for, midpoint_of, midpoints_of}

-- an element, and what stands behind it
drop-get : {X : Type 0} (xs : List X) (k : ℕ) (x : X) → slice_get xs k ≡ Some x → drop k xs ≡ x ∷ drop (suc k) xs
drop-get {X} xs k x e = drop-cons xs k x (slice_get_within xs k x e) ∙ ap (λ (y : X). y ∷ drop (suc k) xs) (get_or_from_slice_get xs k x x e)

-- the midpoints of both directions of one more segment
pub midpoints-step : (segments : List Segment) (s : ℕ) (from to : Point) (midpoints new : List (ℤ × ℤ)) (one other : ℤ × ℤ) (total : List (ℤ × ℤ)) → s < length segments
    → option_map {U = Point × Point} (λ x. (x.from, x.to)) (slice_get segments s) ≡ Some (from, to)
    → one ≡ midpoint_between from to
    → other ≡ midpoint_between to from
    → new ≡ (midpoints ++ one ∷ []) ++ other ∷ []
    → midpoints ++ map midpoint_of (vertices (drop s segments)) ≡ total
    → new ++ map midpoint_of (vertices (drop (s + 1) segments)) ≡ total
midpoints-step segments s from to midpoints new one other total lt ends first second both so_far =
    let g = get_some segments s lt in
    let x = g.0 in
    let up : suc s ≡ s + 1 = omega arith in
    let ends_are : (x.from, x.to) ≡ (from, to) = same_Some _ _ (sym (ap (option_map {U = Point × Point} (λ (y : Segment). (y.from, y.to))) g.1) ∙ ends) in
    let one_is : one ≡ midpoint_of (along x) = first ∙ ap (λ (e : Point × Point). midpoint_between e.0 e.1) (sym ends_are) in
    let other_is : other ≡ midpoint_of (against x) = second ∙ ap (λ (e : Point × Point). midpoint_between e.1 e.0) (sym ends_are) in
    let rest = map midpoint_of (vertices (drop (s + 1) segments)) in
    let front : map midpoint_of (vertices (drop s segments)) ≡ midpoint_of (along x) ∷ midpoint_of (against x) ∷ rest =
    ap (λ (l : List Segment). map midpoint_of (vertices l)) (drop-get segments s x g.1 ∙ ap (λ (k : ℕ). x ∷ drop k segments) up) in
    ap (λ (l : List (ℤ × ℤ)). l ++ rest) both
    ∙ append_assoc (midpoints ++ one ∷ []) (other ∷ []) rest
    ∙ append_assoc midpoints (one ∷ []) (other ∷ rest)
    ∙ ap (λ (o : ℤ × ℤ). midpoints ++ o ∷ other ∷ rest) one_is
    ∙ ap (λ (o : ℤ × ℤ). midpoints ++ midpoint_of (along x) ∷ o ∷ rest) other_is
    ∙ ap (λ (l : List (ℤ × ℤ)). midpoints ++ l) (sym front)
    ∙ so_far

-- the midpoint of one more copy is that of its vertex
pub midpoints-copied : (ordinary midpoints new : List (ℤ × ℤ)) (n : ℕ) (words : List (List ℕ)) (copy vertex : ℕ) (at : ℤ × ℤ) → length ordinary ≡ n → n ≤ copy → copy < n + length words
    → vertex ≡ standing n (map last_of words) copy
    → vertex < n
    → at ≡ get_or midpoints vertex at
    → new ≡ midpoints ++ at ∷ []
    → midpoints ≡ ordinary ++ map (midpoint_for ordinary) (take (copy - n) words)
    → new ≡ ordinary ++ map (midpoint_for ordinary) (take (copy + 1 - n) words)
midpoints-copied ordinary midpoints new n words copy vertex at many behind lt stands below read pushed so_far =
    let k : ℕ = copy - n in
    let where_is : List ℕ → ℤ × ℤ = midpoint_for ordinary in
    let g = get_some words k (omega (arith, behind, lt)) in
    let last : vertex ≡ last_of g.0 =
    stands ∙ ap (λ (b : Bool). cond b copy (get_or (map last_of words) k 0)) (le-ltb copy n behind)
    ∙ get_or_from_slice_get (map last_of words) k (last_of g.0) 0 (slice_get-map last_of words k ∙ ap (option_map last_of) g.1) in
    let there = get_some ordinary vertex (omega (arith, below, many)) in
    let is : at ≡ where_is g.0 =
    read
    ∙ ap (λ (l : List (ℤ × ℤ)). get_or l vertex at) so_far
    ∙ get_or_from_slice_get (ordinary ++ map where_is (take k words)) vertex there.0 at (get_append ordinary (map where_is (take k words)) vertex there.0 there.1)
    ∙ sym (get_or_from_slice_get ordinary vertex there.0 (pos 0, pos 0) there.1)
    ∙ ap (λ (v : ℕ). get_or ordinary v (pos 0, pos 0)) last in
    let more : take (copy + 1 - n) words ≡ take k words ++ g.0 ∷ [] = ap (λ (j : ℕ). take j words) (omega (arith, behind)) ∙ take-get words k g.0 g.1 in
    pushed
    ∙ ap₂ (λ (l : List (ℤ × ℤ)) (x : ℤ × ℤ). l ++ x ∷ []) so_far is
    ∙ append_assoc ordinary (map where_is (take k words)) (where_is g.0 ∷ [])
    ∙ ap (λ (l : List (ℤ × ℤ)). ordinary ++ l) (sym (map-append where_is (take k words) (g.0 ∷ [])) ∙ ap (map where_is) (sym more))

-- each vertex of the network has one
pub length-ordinary : (network : NetworkView) → length (map midpoint_of (vertices_of network)) ≡ 2 * length network.segments
length-ordinary network = length-map (vertices_of network) midpoint_of ∙ length-vertices network.segments

-- and each of the searched graph
pub length-midpoints : (network : NetworkView) → length (midpoints_of network) ≡ (graph_of network).vertices
length-midpoints network =
    let ordinary = map midpoint_of (vertices_of network) in
    let copied = map (midpoint_for ordinary) (copies_in network) in
    length-append ordinary copied ∙ ap₂ (λ (a b : ℕ). a + b) (length-ordinary network) (length-map (copies_in network) (midpoint_for ordinary)) ∙ sym (graph-vertices network)
