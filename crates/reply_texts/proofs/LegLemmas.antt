-- What is told of the legs, one by one.
use Rattle.std.proofs.Common.{◌≡◌, ℕ, zero, suc, ◌+◌, ◌<◌, List, [], ◌∷◌, ◌++◌, length, take, drop, refl, sym, subst, ap, ◌∙◌, arith, append_assoc, append-nil, get_or, length-take}
use Rattle.std.specs.Prelude.{Some, map}
use Rattle.std.specs.List.{AllZip, flat_map, slice_get, zip}
use Rattle.std.proofs.lemmas.Grind.{flat_map-append}
use Rattle.std.proofs.lemmas.List.{length-drop, length-map, map_push, take_more}
use Rattle.std.proofs.lemmas.Option.{get_or_from_slice_get}
use Rattle.std.proofs.lemmas.Slice.Zip.{length-zip}
use Rattle.list_lemmas.proofs.Fronts.{all_zip-length, slice_get-zip}
use Rattle.road_base.specs.declared.coordinates.Point.{Point}
use Rattle.road_base.specs.declared.segments.Place.{Place}
use Rattle.search_graph.specs.declared.costs.WeightDurLen.{WeightDurLen}
use Rattle.road_places.specs.Permitted.{IsPermitted}
use Rattle.metric_make.specs.RoadMetric.{RoadMetric}
use Rattle.road_places.specs.declared.walks.Route.{Route}
use Rattle.route_steps.specs.Steps.{joined}
use Rattle.reply_texts.specs.Legs.{Leg, points_behind}
use Rattle.reply_texts.specs.RouteLegs.{ArePermitted, IsPermittedLeg, ends_and_routes, leg_told}

-- what holds of two elements side by side
all_zip-at : {A B : Type 0} (R : A → B → Type 0) (xs : List A) (ys : List B) (k : ℕ) (x : A) (y : B) → AllZip R xs ys → slice_get xs k ≡ Some x → slice_get ys k ≡ Some y → R x y
all_zip-at R [] ys k x y h i j = absurd (cc)
all_zip-at R (a ∷ xs) [] k x y h i j = absurd h
all_zip-at {A = A} {B = B} R (a ∷ xs) (b ∷ ys) zero x y h i j = subst (λ (z : B). R x z) (let e : b ≡ y = cc in e) (subst (λ (z : A). R z b) (let e : a ≡ x = cc in e) h.0)
all_zip-at R (a ∷ xs) (b ∷ ys) (suc k) x y h i j = all_zip-at R xs ys k x y h.1 i j

-- the place behind one
slice_get-drop1 : {A : Type 0} (xs : List A) (k : ℕ) → slice_get (drop 1 xs) k ≡ slice_get xs (k + 1)
slice_get-drop1 [] k = refl
slice_get-drop1 (x ∷ xs) k = ap (slice_get (x ∷ xs)) (let e : suc k ≡ k + 1 = omega arith in e)

module _ (road : RoadMetric) (places : List Place) (routes : List Route) (along : ArePermitted road places routes) where
  -- there is a place more than there are routes, unless there is neither
  pub places-enough : (k : ℕ) → k < length routes → k + 1 < length places
  places-enough k lt =
      let same = all_zip-length _ (zip places (drop 1 places)) routes along in
      omega (arith, same, length-zip places (drop 1 places), length-drop 1 places)

  pub legs-count : length (ends_and_routes places routes) ≡ length routes
  legs-count =
      let same = all_zip-length _ (zip places (drop 1 places)) routes along in
      omega (arith, same, length-zip (zip places (drop 1 places)) routes)

  module _ (k : ℕ) (from to : Place) (route : Route) (first : slice_get places k ≡ Some from) (second : slice_get places (k + 1) ≡ Some to) (third : slice_get routes k ≡ Some route) where
    ends-at : slice_get (zip places (drop 1 places)) k ≡ Some (from, to)
    ends-at = slice_get-zip places (drop 1 places) k from to first (slice_get-drop1 places k ∙ second)

    -- the leg of a number
    pub leg-at : (default : (Place × Place) × Route) → get_or (ends_and_routes places routes) k default ≡ ((from, to), route)
    leg-at default = get_or_from_slice_get (ends_and_routes places routes) k ((from, to), route) default (slice_get-zip (zip places (drop 1 places)) routes k (from, to) route ends-at third)

    -- its walk is permitted
    pub permitted-at : IsPermitted road from to route.walk route.cost
    permitted-at = all_zip-at (IsPermittedLeg road) (zip places (drop 1 places)) routes k (from, to) route along ends-at third

-- the costs of the legs are those of the routes
pub costs-of : (road : RoadMetric) (ends : List (Place × Place)) (routes : List Route) → length routes ≡ length ends
    → map (λ (leg : Leg). leg.cost) (map (leg_told road) (zip ends routes)) ≡ map (λ (route : Route). route.cost) routes
costs-of road [] [] same = refl
costs-of road [] (route ∷ routes) same = absurd (omega (arith, same))
costs-of road (end ∷ ends) [] same = refl
costs-of road (end ∷ ends) (route ∷ routes) same = ap (λ (costs : List WeightDurLen). route.cost ∷ costs) (costs-of road ends routes (omega (arith, same)))

-- the points of one leg more
pub joined-push : (legs : List (List Point)) (leg : List Point) → joined (legs ++ leg ∷ []) ≡ joined legs ++ points_behind (length legs) leg
joined-push [] leg = append-nil leg
joined-push (first ∷ later) leg =
    let behind = λ (points : List Point). drop 1 points in
    ap (λ (points : List Point). first ++ points) (flat_map-append behind later (leg ∷ []) ∙ ap (λ (points : List Point). flat_map behind later ++ points) (append-nil (drop 1 leg)))
    ∙ sym (append_assoc first (flat_map behind later) (drop 1 leg))

module _ {X : Type 0} (f : X → List Point) (xs : List X) where
  pub joined-more : (k : ℕ) (default : X) (now after : List Point) → k < length xs → now ≡ joined (map f (take k xs)) → after ≡ now ++ points_behind k (f (get_or xs k default)) → after ≡ joined (map f (take (k + 1) xs))
  joined-more k default now after lt is next =
      let front = map f (take k xs) in
      let x = get_or xs k default in
      let size : length front ≡ k = simp (length-map, length-take) (omega arith) in
      next ∙ ap (λ (points : List Point). points ++ points_behind k (f x)) is
      ∙ ap (λ (n : ℕ). joined front ++ points_behind n (f x)) (sym size)
      ∙ sym (joined-push front (f x)) ∙ ap joined (sym (ap (map f) (take_more xs k default lt) ∙ map_push f (take k xs) x))
