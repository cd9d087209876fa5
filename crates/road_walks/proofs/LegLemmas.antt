-- The legs of a list of places.
use Rattle.std.proofs.Common.{◌≡◌, ℕ, ◌+◌, ◌-◌, ◌<◌, List, length, drop, get_or, Option, Some, None, ◌∙◌, subst, arith, length-drop}
use Rattle.std.specs.List.{AllZip, slice_get}
use Rattle.std.proofs.lemmas.Option.{slice_get-get_or}
use Rattle.std.proofs.lemmas.Slice.Zip.{length-zip}
use Rattle.list_lemmas.proofs.Fronts.{all_zip-each, slice_get-rest, slice_get-zip}
use Rattle.road_base.specs.declared.segments.Place.{Place}
use Rattle.metric_make.specs.RoadMetric.{RoadMetric}
use Rattle.road_places.specs.declared.walks.Route.{Route}
use Rattle.road_walks.specs.Least.{IsRouteAnswer}
use Rattle.road_walks.specs.Legs.{AreAlong, AreLeastRoutes, CostsLeast, HasNoWalk, IsAlongLeg, IsLeastAlong, legs_of}

-- the leg of a number
pub leg-at : (places : List Place) (k : ℕ) (d : Place) → k + 1 < length places → slice_get (legs_of places) k ≡ Some (get_or places k d, get_or places (k + 1) d)
leg-at places k d lt =
    let inside : k < length places = omega arith in
    slice_get-zip places (drop 1 places) k (get_or places k d) (get_or places (k + 1) d) (slice_get-get_or places k d inside) (slice_get-rest places k ∙ slice_get-get_or places (k + 1) d lt)

pub length-legs_of : (places : List Place) → length (legs_of places) ≡ length places - 1
length-legs_of places = let e = length-zip places (drop 1 places) in let f = length-drop 1 places in omega (arith, e, f)

module _ (road : RoadMetric) where
  pub least-along : (leg : Place × Place) (o : Option Route) (route : Route) → IsRouteAnswer road leg.0 leg.1 o → o ≡ Some route → IsLeastAlong road leg route
  least-along leg o route h e = subst (λ (x : Option Route). IsRouteAnswer road leg.0 leg.1 x) e h

  pub no-walk : (leg : Place × Place) (o : Option Route) → IsRouteAnswer road leg.0 leg.1 o → o ≡ None → HasNoWalk road leg
  no-walk leg o h e = subst (λ (x : Option Route). IsRouteAnswer road leg.0 leg.1 x) e h

  -- least routes are routes along the legs, and none costs less
  pub are-along : (places : List Place) (routes : List Route) → AllZip (IsLeastAlong road) (legs_of places) routes → AreAlong road places routes
  are-along places routes h = all_zip-each (IsLeastAlong road) (IsAlongLeg road) (λ leg route k. k.permitted) (legs_of places) routes h

  pub are-least : (places : List Place) (routes : List Route) → AllZip (IsLeastAlong road) (legs_of places) routes → AreLeastRoutes road places routes
  are-least places routes h = all_zip-each (IsLeastAlong road) (CostsLeast road) (λ leg route k. k.least) (legs_of places) routes h
