-- What holds of the steps of a permitted walk as a whole: they cost what it costs, and their lines joined are its
-- line.
use Rattle.std.proofs.Common.{◌≡◌, ℕ, ◌+◌, ◌-◌, ◌*◌, ◌<◌, List, [], ◌∷◌, ◌++◌, Option, None, Some, arith, ap, ap₂, length, map, refl, sym, take, ◌∙◌}
use Rattle.std.specs.Prelude.{option_map, slice_index}
use Rattle.std.proofs.lemmas.List.{length-map, length_push, map-append, take_all, take_at}
use Rattle.std.proofs.lemmas.Option.{same_Some}
use Rattle.std.proofs.lemmas.Slice.{between_from_start}
use Rattle.list_lemmas.proofs.Fronts.{map-map}
use Rattle.road_base.specs.declared.coordinates.Point.{Point}
use Rattle.road_base.specs.declared.directions.Modifier.{Modifier}
use Rattle.road_base.specs.declared.segments.Place.{Place}
use Rattle.search_graph.specs.declared.costs.WeightDurLen.{WeightDurLen}
use Rattle.search_graph.specs.Digraph.{Weighting}
use Rattle.search_graph.specs.Faults.{AllInRange}
use Rattle.search_graph.specs.RoadCosts.{road_cost_laws, road_cost_ops}
use Rattle.edge_graph.specs.NetworkView.{NetworkView}
use Rattle.road_turns.specs.Turn.{IsSimple}
use Rattle.road_places.specs.Paid.{paid_along, paid_to, steps_of, total_of}
use Rattle.road_places.specs.PaidLaws.{permitted_adds_up, total_of-append}
use Rattle.road_places.specs.Permitted.{IsPermitted}
use Rattle.road_places.specs.Places.{IsPlaceOn}
use Rattle.metric_make.specs.RoadMetric.{RoadMetric}
use Rattle.route_steps.specs.CutLaws.{cost_of, cuts-ahead, pieces-cost, pieces-line, points_of}
use Rattle.route_steps.specs.Points.{point_in, points_along}
use Rattle.route_steps.specs.Roundabouts.{exit_at}
use Rattle.route_steps.specs.StepSums.{AddUp, IsLineCut}
use Rattle.route_steps.specs.Steps.{AreAhead, arrival_at, begin_at, begins_along, cost_between, departure, joined, pieces, step_between, steps_along}
use Rattle.route_steps.specs.Turnings.{maneuver_at, turn_paid, turns_paid}
use Rattle.route_steps.specs.declared.begins.Begin.{Begin}
use Rattle.route_steps.specs.declared.maneuvers.ManeuverKind.{ManeuverKind}
use Rattle.route_steps.specs.declared.step_lists.Step.{Step}
use Rattle.route_steps.specs.LineLaws.{length-points_along}
use Rattle.route_steps.specs.TurnLaws.{length-steps_of, turns_paid-along}
use Rattle.route_steps.specs.WalkLaws.{some-vertex, vertices_of-walk}

length-paid_to : (w : Weighting WeightDurLen) (q : Place) (v : ℕ) (more : List ℕ) → length (paid_to w q v more) ≡ length more + 1
length-paid_to w q v [] = refl
length-paid_to w q v (u ∷ more) = omega (arith, length-paid_to w q u more)

-- an entry for each vertex
pub length-paid_along : (w : Weighting WeightDurLen) (p q : Place) (walk : List ℕ) → length (paid_along w p q walk) ≡ length walk
length-paid_along w p q [] = refl
length-paid_along w p q (v ∷ []) = refl
length-paid_along w p q (v ∷ u ∷ more) = omega (arith, length-paid_to w q u more)

-- one for each turn
pub length-turns_paid : (road : RoadMetric) (walk : List ℕ) → 0 < length walk → length (turns_paid road walk) + 1 ≡ length walk
length-turns_paid road walk h = omega (arith, length-map {A = ℕ × ℕ} {B = WeightDurLen} (steps_of walk) (turn_paid road), length-steps_of walk h)

begin-there : (k : ℕ) (exit : Option ℕ) (o : Option (ManeuverKind × Modifier)) (c : Begin) → option_map {U = Begin} (λ m. record { place = k; kind = m.0; modifier = Some m.1; exit = exit }) o ≡ Some c → c.place ≡ k
begin-there k exit None c e = cc
begin-there k exit (Some m) c e = sym (ap (λ (x : Begin). x.place) (same_Some {A = Begin} (record { place = k; kind = m.0; modifier = Some m.1; exit = exit }) c e))

-- the begins of a walk's steps lead ahead
pub begins-ahead : (network : NetworkView) (walk : List ℕ) → 0 < length walk → AreAhead (length walk) (pieces (begins_along network walk) (length walk))
begins-ahead network walk some =
    cuts-ahead (begin_at network walk) (λ k c e. begin-there k (exit_at network walk k) (maneuver_at network walk k) c e) (length walk) departure 1 (length walk - 1) (omega arith) (omega arith)

-- all but the last of a list
front-of : {X : Type 0} (xs : List X) (x : X) → take (length (xs ++ x ∷ []) - 1) (xs ++ x ∷ []) ≡ xs
front-of xs x = take_at xs (x ∷ []) (length (xs ++ x ∷ []) - 1) (omega (arith, length_push xs x))

total-with-nothing : (xs : List WeightDurLen) → total_of (xs ++ road_cost_ops.zero ∷ []) ≡ total_of xs
total-with-nothing xs =
    total_of-append xs (road_cost_ops.zero ∷ []) ∙ ap (road_cost_ops.plus (total_of xs)) (road_cost_laws.neutral road_cost_ops.zero tt) ∙ road_cost_laws.neutral (total_of xs) tt

module _ (network : NetworkView) (walk : List ℕ) (points : List Point) (paid turns : List WeightDurLen) (cuts : List (Begin × ℕ)) (end : Step) where
  -- what steps cost, the arrival with them
  steps-cost : end.cost ≡ road_cost_ops.zero → total_of (map (λ (step : Step). step.cost) (map (step_between network walk points paid turns) cuts ++ end ∷ [])) ≡ total_of (map (cost_of paid turns) cuts)
  unfolding step_between
  steps-cost none =
      ap total_of (map-append (λ (step : Step). step.cost) (map (step_between network walk points paid turns) cuts) (end ∷ [])
      ∙ ap₂ (λ l c. l ++ c ∷ []) (map-map (λ (step : Step). step.cost) (step_between network walk points paid turns) cuts) none)
      ∙ total-with-nothing (map (cost_of paid turns) cuts)

  -- the lines of steps, without that of the arrival
  steps-lines : map (λ (step : Step). step.points) (take (length (map (step_between network walk points paid turns) cuts ++ end ∷ []) - 1) (map (step_between network walk points paid turns) cuts ++ end ∷ [])) ≡ map (points_of points) cuts
  unfolding step_between
  steps-lines =
      ap (map (λ (step : Step). step.points)) (front-of (map (step_between network walk points paid turns) cuts) end)
      ∙ map-map (λ (step : Step). step.points) (step_between network walk points paid turns) cuts

-- what is paid along a whole walk
cost-whole : (paid turns : List WeightDurLen) (n : ℕ) → length paid ≡ n → length turns + 1 ≡ n → cost_between paid turns 0 n ≡ road_cost_ops.plus (total_of paid) (total_of turns)
cost-whole paid turns n h k =
    ap₂ road_cost_ops.plus (ap total_of (between_from_start paid n ∙ take_all n paid (omega arith))) (ap total_of (between_from_start turns (n - 1) ∙ take_all (n - 1) turns (omega arith)))

-- a permitted walk's line has a point more than it has vertices
pub length-line : (road : RoadMetric) (p q : Place) (walk : List ℕ) (d : WeightDurLen) → IsPlaceOn road.network p → IsPlaceOn road.network q → AllInRange (2 * length road.network.segments) road.network.turns
    → IsPermitted road p q walk d → length (points_along road.network.segments p q walk) ≡ length walk + 1
length-line road p q walk d from to range permitted =
    let all = vertices_of-walk road p q from to walk d range permitted in
    length-points_along road.network p q walk from to (λ k e h. (all k e h).0) (some-vertex road p q walk d permitted)

module _ (road : RoadMetric) (p q : Place) (walk : List ℕ) where
  -- the steps of a permitted walk cost what it costs
  pub steps_along-cost : IsSimple road.network.turns → AddUp road p q walk (steps_along road p q walk)
  unfolding steps_along
  steps_along-cost simple d permitted =
      let points = points_along road.network.segments p q walk in
      let paid = paid_along road.weights p q walk in
      let turns = turns_paid road walk in
      let some = some-vertex road p q walk d permitted in
      let sum = permitted_adds_up road p q walk d permitted in
      steps-cost road.network walk points paid turns (pieces (begins_along road.network walk) (length walk))
      (arrival_at road.network (slice_index walk (length walk - 1)) (point_in points (length walk))) refl
      ∙ pieces-cost paid turns departure _ (length walk) (begins-ahead road.network walk some)
      ∙ cost-whole paid turns (length walk) (length-paid_along road.weights p q walk) (length-turns_paid road walk some)
      ∙ sym (sum.is_sum ∙ ap (λ (l : List WeightDurLen). road_cost_ops.plus (total_of paid) (total_of l)) (turns_paid-along road simple walk sum.turns sum.are_turns))

  -- and their lines, joined, are its line
  pub steps_along-line : (d : WeightDurLen) → IsPlaceOn road.network p → IsPlaceOn road.network q → AllInRange (2 * length road.network.segments) road.network.turns → IsPermitted road p q walk d
      → IsLineCut road p q walk (steps_along road p q walk)
  unfolding steps_along
  steps_along-line d from to range permitted =
      let some = some-vertex road p q walk d permitted in
      let count = length-line road p q walk d from to range permitted in
      let points = points_along road.network.segments p q walk in
      let paid = paid_along road.weights p q walk in
      let turns = turns_paid road walk in
      ap joined (steps-lines road.network walk points paid turns (pieces (begins_along road.network walk) (length walk))
      (arrival_at road.network (slice_index walk (length walk - 1)) (point_in points (length walk))))
      ∙ pieces-line points departure _ (length walk) (begins-ahead road.network walk some)
      ∙ between_from_start points (length walk + 1) ∙ take_all (length walk + 1) points (omega arith)
