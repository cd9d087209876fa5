-- What is told of a leg in steps is the leg.
use Rattle.std.specs.Prelude.{◌≡◌, ◌*◌, ◌-◌, suc, List, [], ◌∷◌, All, drop, length, map, refl, take}
use Rattle.std.specs.List.{AllZip, zip}
use Rattle.std.proofs.lemmas.List.Elements.{All-cons, All-head, All-map, All-nil, All-tail}
use Rattle.road_base.specs.declared.segments.Place.{Place}
use Rattle.search_graph.specs.Faults.{AllInRange}
use Rattle.road_turns.specs.Turn.{IsSimple}
use Rattle.road_places.specs.Paid.{total_of}
use Rattle.road_places.specs.Places.{ArePlacesOn, IsPlaceOn}
use Rattle.metric_make.specs.RoadMetric.{RoadMetric}
use Rattle.road_places.specs.declared.walks.Route.{Route}
use Rattle.route_steps.specs.StepLaws.{steps_along-cost, steps_along-line}
use Rattle.route_steps.specs.Steps.{joined}
use Rattle.reply_texts.specs.Legs.{Leg}
use Rattle.reply_texts.specs.RouteLegs.{ArePermitted, IsPermittedLeg, ends_and_routes, leg_told, legs_told}

-- the steps of a leg cost together what it costs, and their lines, but the arrival's, joined are its line
pub record IsToldInSteps (leg : Leg) : Type 0 where
  pub cost : total_of (map (λ step. step.cost) leg.steps) ≡ leg.cost
  pub line : joined (map (λ step. step.points) (take (length leg.steps - 1) leg.steps)) ≡ leg.points

-- what holds of two lists side by side holds of their pairs
zip-all : {A B : Type 0} (Q : A → Type 0) (R : A → B → Type 0) (P : A × B → Type 0) (f : (a : A) (b : B) → Q a → R a b → P (a, b)) (xs : List A) (ys : List B) → All Q xs → AllZip R xs ys → All P (zip xs ys)
zip-all Q R P f [] ys q r = All-nil P
zip-all Q R P f (x ∷ xs) [] q r = All-nil P
zip-all Q R P f (x ∷ xs) (y ∷ ys) q r = All-cons P (x, y) (zip xs ys) (f x y (All-head Q x xs q) r.0) (zip-all Q R P f xs ys (All-tail Q x xs q) r.1)

module _ (road : RoadMetric) where
  -- both ends of a leg are on the network
  abbrev pub AreEndsOn : Place × Place → Type 0
  AreEndsOn ends = IsPlaceOn road.network ends.0 × IsPlaceOn road.network ends.1

  ends-on : (places : List Place) → ArePlacesOn road.network places → All AreEndsOn (zip places (drop 1 places))
  ends-on [] on = All-nil AreEndsOn
  ends-on (p ∷ []) on = All-nil AreEndsOn
  ends-on (p ∷ q ∷ more) on = All-cons AreEndsOn (p, q) (zip (q ∷ more) more) (on 0 p refl, on 1 q refl) (ends-on (q ∷ more) (λ k place at. on (suc k) place at))

  -- each leg of a route on roads is told in steps
  pub legs_told-steps : (places : List Place) (routes : List Route) → IsSimple road.network.turns → AllInRange (2 * length road.network.segments) road.network.turns
      → ArePlacesOn road.network places → ArePermitted road places routes → All IsToldInSteps (legs_told road places routes)
  legs_told-steps places routes simple range on permitted =
      All-map IsToldInSteps (leg_told road) (ends_and_routes places routes)
      (zip-all AreEndsOn (IsPermittedLeg road) (λ (leg : (Place × Place) × Route). IsToldInSteps (leg_told road leg))
      (λ ends route both walk. record {
        cost = steps_along-cost road ends.0 ends.1 route.walk simple route.cost walk;
        line = steps_along-line road ends.0 ends.1 route.walk route.cost both.0 both.1 range walk;
      })
      (zip places (drop 1 places)) routes (ends-on places on) permitted)
