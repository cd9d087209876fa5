-- The points that a network tells are those of the definitions.
use Rattle.std.proofs.Common.{◌≡◌, ℕ, ◌/◌, ◌%◌, ◌≢◌, List, [], ◌∷◌, ◌++◌, Option, Some, None, arith, refl, sym, ap, ap₂, ◌∙◌}
use Rattle.std.specs.Prelude.{option_map}
use Rattle.std.specs.List.{slice_get}
use Rattle.std.specs.Option.{option_and_then, option_to_list}
use Rattle.std.proofs.lemmas.Option.{same_Some}
use Rattle.road_base.specs.declared.coordinates.Point.{Point}
use Rattle.road_base.specs.declared.segments.Place.{Place}
use Rattle.geo_integer.specs.Position.{Position, position_of}
use Rattle.geo_integer.specs.Project.{position_at}
use Rattle.road_segments.specs.Laws.{vertices-even, vertices-odd}
use Rattle.road_segments.specs.Segment.{Segment}
use Rattle.road_segments.specs.Vertex.{Vertex}
use Rattle.route_steps.specs.LineLaws.{point_of-position}
use Rattle.route_steps.specs.Points.{end_of, point_of, point_on}

point-found : (f : Segment → Position) (o : Option Segment) (point : Point) → option_map f o ≡ Some (position_of point) → option_and_then (λ s. point_of (f s)) o ≡ Some point
point-found f None point e = cc
point-found f (Some s) point e = ap point_of (same_Some (f s) (position_of point) e) ∙ point_of-position point

-- the point that a network tells of a place is the one on its segment
pub point_on-told : (segments : List Segment) (place : Place) (point : Point)
    → option_map (λ s. position_at (position_of s.from) (position_of s.to) place.at) (slice_get segments place.segment) ≡ Some (position_of point) → point_on segments place ≡ Some point
point_on-told segments place point e = point-found (λ s. position_at (position_of s.from) (position_of s.to) place.at) (slice_get segments place.segment) point e

-- the segment whose ends were told
pub record IsTold (o : Option Segment) (from to : Point) : Type 0 where
  pub segment : Segment
  pub is_segment : o ≡ Some segment
  pub is_from : segment.from ≡ from
  pub is_to : segment.to ≡ to

pub told : (o : Option Segment) (from to : Point) → option_map {U = Point × Point} (λ (s : Segment). (s.from, s.to)) o ≡ Some (from, to) → IsTold o from to
told None from to e = cc
told (Some s) from to e =
    let ends = same_Some {A = Point × Point} (s.from, s.to) (from, to) e in
    record { segment = s; is_segment = refl; is_from = ap (λ (x : Point × Point). x.0) ends; is_to = ap (λ (x : Point × Point). x.1) ends }

module _ (segments : List Segment) (v : ℕ) (from to : Point) (e : option_map {U = Point × Point} (λ (s : Segment). (s.from, s.to)) (slice_get segments (v / 2)) ≡ Some (from, to)) where
  -- a vertex in the order of its way ends where its segment does
  pub end_of-even : v % 2 ≡ 0 → end_of segments v ≡ Some to
  end_of-even even =
      let t = told (slice_get segments (v / 2)) from to e in
      ap (option_map (λ (x : Vertex). x.to)) (vertices-even segments (v / 2) t.segment v t.is_segment (omega arith)) ∙ ap Some t.is_to

  -- one against it where that begins
  pub end_of-odd : v % 2 ≢ 0 → end_of segments v ≡ Some from
  end_of-odd odd =
      let t = told (slice_get segments (v / 2)) from to e in
      ap (option_map (λ (x : Vertex). x.to)) (vertices-odd segments (v / 2) t.segment v t.is_segment (omega arith)) ∙ ap Some t.is_from

-- the points, pushed one after another
pub points-pushed : (first last : Option Point) (a b : Point) (middle none one more all : List Point) → first ≡ Some a → last ≡ Some b
    → none ≡ [] → one ≡ none ++ a ∷ [] → more ≡ one ++ middle → all ≡ more ++ b ∷ [] → all ≡ option_to_list first ++ (middle ++ option_to_list last)
points-pushed first last a b middle none one more all is_a is_b e0 e1 e2 e3 =
    e3 ∙ ap (λ l. l ++ b ∷ []) (e2 ∙ ap (λ l. l ++ middle) (e1 ∙ ap (λ l. l ++ a ∷ []) e0)) ∙ sym (ap₂ (λ x y. option_to_list x ++ (middle ++ option_to_list y)) is_a is_b)
