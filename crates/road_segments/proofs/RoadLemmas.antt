-- What holds of all segments of a map.
use Rattle.std.proofs.Common.{◌≡◌, ℕ, ℤ, suc, List, [], ◌∷◌, All, Option, Some, None, true, false, cond, arith}
use Rattle.std.specs.List.{flat_map}
use Rattle.std.specs.Ordering.{int_eq}
use Rattle.std.proofs.lemmas.List.Elements.{All-nil, All-cons, All-append}
use Rattle.road_base.specs.declared.osm_objects.Object.{Object}
use Rattle.road_base.specs.declared.osm_objects.Way.{Way}
use Rattle.way_profile.specs.Vehicle.{ProfileView, IsSpeed}
use Rattle.road_segments.specs.Located.{nodes_at, segments_on}
use Rattle.road_segments.specs.Segment.{Segment, joined, segment_between, segments, segments_along, segments_of_way, segments_through, ways_by_id}
use Rattle.road_segments.specs.Spots.{spot_at}
use Rattle.road_segments.specs.declared.spots.Spot.{Spot}
use Rattle.road_segments.specs.declared.streets.Street.{Street}

abbrev SpeedsAre : List Segment → Type 0
SpeedsAre = All (λ s. IsSpeed s.street.speed)

module _ (spot : ℤ → Option Spot) (street : Street) (speed : IsSpeed street.speed) where
  joined-speeds : (a b : ℤ) (from to : Option Spot) → SpeedsAre (joined street a b from to)
  joined-speeds a b (Some from) (Some to) = All-cons (λ s. IsSpeed s.street.speed) _ [] speed (All-nil (λ s. IsSpeed s.street.speed))
  joined-speeds a b (Some from) None = All-nil (λ s. IsSpeed s.street.speed)
  joined-speeds a b None to = All-nil (λ s. IsSpeed s.street.speed)

  between-speeds : (a b : ℤ) → SpeedsAre (segment_between spot street a b)
  between-speeds a b =
      elim (int_eq a b) as (λ c. SpeedsAre (cond c [] (joined street a b (spot a) (spot b)))) [
        | true ↦ All-nil (λ s. IsSpeed s.street.speed)
        | false ↦ joined-speeds a b (spot a) (spot b)
      ]

  through-speeds : (a : ℤ) (ids : List ℤ) → SpeedsAre (segments_through spot street a ids)
  through-speeds a [] = All-nil (λ s. IsSpeed s.street.speed)
  through-speeds a (b ∷ ids) = All-append (λ s. IsSpeed s.street.speed) (segment_between spot street a b) (segments_through spot street b ids) (between-speeds a b) (through-speeds b ids)

  along-speeds : (ids : List ℤ) → SpeedsAre (segments_along spot street ids)
  along-speeds [] = All-nil (λ s. IsSpeed s.street.speed)
  along-speeds (a ∷ ids) = through-speeds a ids

-- where each street's speed is in its range, each segment's is
pub on-speeds : (spot : ℤ → Option Spot) (objects : List Object) (streets : List Street) (places : List ℕ) → All (λ s. IsSpeed s.speed) streets → SpeedsAre (segments_on spot objects streets places)
on-speeds spot objects [] places h = All-nil (λ s. IsSpeed s.street.speed)
on-speeds spot objects (street ∷ streets) [] h = All-nil (λ s. IsSpeed s.street.speed)
on-speeds spot objects (street ∷ streets) (place ∷ places) h =
    All-append (λ s. IsSpeed s.street.speed) (segments_along spot street (nodes_at objects place)) (segments_on spot objects streets places)
    (along-speeds spot street (h 0 street (omega arith)) (nodes_at objects place))
    (on-speeds spot objects streets places (λ k d lt. h (suc k) d (omega arith)))

-- the segments by spots that are those of the nodes
pub segments-spotted : (spot : ℤ → Option Spot) (objects : List Object) (profile : ProfileView) → ((id : ℤ) → spot id ≡ spot_at profile objects id)
    → flat_map (λ way. segments_of_way spot profile way.1) (ways_by_id objects) ≡ segments objects profile
segments-spotted spot objects profile h = λ i. flat_map (λ (way : ℤ × Way). segments_of_way (λ id. h id i) profile way.1) (ways_by_id objects)
