-- The legs of a list of places by their numbers, and least routes along them between given states.
use Rattle.std.proofs.Common.{◌≡◌, ℕ, ◌+◌, ◌-◌, ◌<◌, List, [], ◌∷◌, ◌++◌, Option, Some, None, length, drop, take, get_or, arith, length-drop, sym, subst, ◌∙◌}
use Rattle.std.specs.List.{AllZip, slice_get, zip}
use Rattle.std.proofs.lemmas.Option.{same_Some, slice_get-get_or}
use Rattle.std.proofs.lemmas.Slice.Zip.{length-zip}
use Rattle.list_lemmas.proofs.Fronts.{all_zip-more, all_zip-second, slice_get-rest, slice_get-zip}
use Rattle.road_base.specs.declared.segments.Place.{Place}
use Rattle.metric_make.specs.RoadMetric.{RoadMetric}
use Rattle.road_places.specs.declared.walks.Route.{Route}
use Rattle.road_walks.specs.Between.{IsRouteBetween, states_of}
use Rattle.road_walks.specs.Legs.{legs_of}
use Rattle.road_through.specs.States.{HasRoutesBy, IsLeastBy, legs_by}

-- an element of a list with the next
pub pair-at : {X : Type 0} (xs : List X) (k : ℕ) (d : X) → k + 1 < length xs → slice_get (zip xs (drop 1 xs)) k ≡ Some (get_or xs k d, get_or xs (k + 1) d)
pair-at xs k d lt =
    let inside : k < length xs = omega arith in
    slice_get-zip xs (drop 1 xs) k (get_or xs k d) (get_or xs (k + 1) d) (slice_get-get_or xs k d inside) (slice_get-rest xs k ∙ slice_get-get_or xs (k + 1) d lt)

-- a list has one such pair less than elements
pub pairs-count : {X : Type 0} (xs : List X) → length (zip xs (drop 1 xs)) ≡ length xs - 1
pairs-count xs = let e = length-zip xs (drop 1 xs) in let f = length-drop 1 xs in omega (arith, e, f)

-- a list beside a front has one element more
pub beside-more : {A B : Type 0} (R : A → B → Type 0) (xs : List A) (ys pushed : List B) (k : ℕ) (x : A) (y : B) → pushed ≡ ys ++ y ∷ [] → AllZip R (take k xs) ys → slice_get xs k ≡ Some x → R x y → AllZip R (take (k + 1) xs) pushed
beside-more {A} {B} R xs ys pushed k x y e h at r = subst (λ (l : List B). AllZip R (take (k + 1) xs) l) (sym e) (all_zip-more R xs ys k x y h at r)

-- the leg of a number, with its states
abbrev pub leg_by : List Place → List ℕ → ℕ → (Place × Place) × (ℕ × ℕ)
leg_by places states k = ((get_or places k (record { segment = 0; at = 0 }), get_or places (k + 1) (record { segment = 0; at = 0 })), (get_or states k 0, get_or states (k + 1) 0))

pub by-at : (places : List Place) (states : List ℕ) (k : ℕ) → length states ≡ length places → k + 1 < length places → slice_get (legs_by places states) k ≡ Some (leg_by places states k)
by-at places states k same lt =
    let nowhere : Place = record { segment = 0; at = 0 } in
    slice_get-zip (legs_of places) (zip states (drop 1 states)) k (get_or places k nowhere, get_or places (k + 1) nowhere) (get_or states k 0, get_or states (k + 1) 0)
    (pair-at places k nowhere lt) (pair-at states k 0 (omega (arith, same, lt)))

-- as many legs with states as legs
pub by-count : (places : List Place) (states : List ℕ) → length states ≡ length places → length (legs_by places states) ≡ length places - 1
by-count places states same =
    let e = length-zip (legs_of places) (zip states (drop 1 states)) in
    let f = pairs-count places in
    let g = pairs-count states in
    omega (arith, e, f, g, same)

-- where there are routes by the states, there is one along the leg of a number
pub route-at : (road : RoadMetric) (places : List Place) (states : List ℕ) (k : ℕ) → length states ≡ length places → k + 1 < length places → HasRoutesBy road places states
    → (route : Route) × IsLeastBy road (leg_by places states k) route
route-at road places states k same lt routes = all_zip-second (IsLeastBy road) (legs_by places states) routes.0 k (leg_by places states k) routes.1 (by-at places states k same lt)

-- two states of one number are one
same-state : (states : List ℕ) (x d e : ℕ) → slice_get states x ≡ Some d → slice_get states x ≡ Some e → d ≡ e
same-state states x d e h k = same_Some d e (sym h ∙ k)

module _ (road : RoadMetric) (leg : (Place × Place) × (ℕ × ℕ)) (d e : ℕ) (first : slice_get (states_of road.network leg.0.0) leg.1.0 ≡ Some d) (last : slice_get (states_of road.network leg.0.1) leg.1.1 ≡ Some e) where
  -- what was found between the two states is a least route by their numbers
  pub found-by : (found : Option Route) (route : Route) → found ≡ Some route → IsRouteBetween road leg.0.0 leg.0.1 d e found → IsLeastBy road leg route
  found-by found route same is = record {
    start = d;
    end = e;
    first = first;
    last = last;
    least = subst (λ (o : Option Route). IsRouteBetween road leg.0.0 leg.0.1 d e o) same is;
  }

  -- and something was where there is such a route
  pub found-some : (found : Option Route) → found ≡ None → IsRouteBetween road leg.0.0 leg.0.1 d e found → (route : Route) → ¬ IsLeastBy road leg route
  found-some found same is route = λ there.
      let none : IsRouteBetween road leg.0.0 leg.0.1 d e None = subst (λ (o : Option Route). IsRouteBetween road leg.0.0 leg.0.1 d e o) same is in
      let start = same-state (states_of road.network leg.0.0) leg.1.0 there.start d there.first first in
      let end = same-state (states_of road.network leg.0.1) leg.1.1 there.end e there.last last in
      let here : IsRouteBetween road leg.0.0 leg.0.1 d e (Some route) =
      subst (λ (b : ℕ). IsRouteBetween road leg.0.0 leg.0.1 d b (Some route)) end (subst (λ (a : ℕ). IsRouteBetween road leg.0.0 leg.0.1 a there.end (Some route)) start there.least) in
      none route.walk route.cost here.permitted
