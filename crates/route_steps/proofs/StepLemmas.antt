-- Steps made from the lists of a walk.
use Rattle.std.proofs.Common.{◌≡◌, ℕ, ◌+◌, ◌-◌, ◌^◌, ◌<◌, List, [], ◌∷◌, ◌++◌, Option, ap, ap₂, get_or, length, map, refl, subst, sym, ◌∙◌}
use Rattle.std.specs.Prelude.{slice_index, unwrap_or}
use Rattle.std.proofs.lemmas.Option.{slice_get_read}
use Rattle.road_base.specs.declared.coordinates.Point.{Point}
use Rattle.road_base.specs.declared.segments.Place.{Place}
use Rattle.search_graph.specs.declared.costs.WeightDurLen.{WeightDurLen}
use Rattle.search_graph.specs.RoadCosts.{road_cost_ops}
use Rattle.road_turns.specs.Turn.{IsSimple}
use Rattle.road_places.specs.Paid.{paid_along, total_of}
use Rattle.road_places.specs.PaidLaws.{permitted_adds_up}
use Rattle.road_places.specs.Permitted.{IsPermitted}
use Rattle.metric_make.specs.RoadMetric.{RoadMetric}
use Rattle.route_steps.specs.Points.{point_in, points_along}
use Rattle.route_steps.specs.StepParts.{IsCourse}
use Rattle.route_steps.specs.Steps.{arrival_at, begins_along, pieces, step_between, steps_along}
use Rattle.route_steps.specs.Turnings.{turns_paid}
use Rattle.route_steps.specs.declared.begins.Begin.{Begin}
use Rattle.route_steps.specs.declared.intersection_lists.Intersection.{Intersection}
use Rattle.route_steps.specs.declared.maneuvers.Maneuver.{Maneuver}
use Rattle.route_steps.specs.declared.step_lists.Step.{Step}
use Rattle.route_steps.specs.StepLaws.{length-paid_along, length-turns_paid}
use Rattle.route_steps.specs.TurnLaws.{turns_paid-along}

-- a point that was read
pub point_in-read : (points part : List Point) (i : ℕ) (x : Point) → part ≡ points → i < length points → x ≡ get_or part i x → x ≡ point_in points i
point_in-read points part i x e lt is =
    sym (ap (λ (o : Option Point). unwrap_or o (point_in [] 0)) (slice_get_read points (length points) i x refl lt (is ∙ ap (λ (l : List Point). get_or l i x) e)))

-- a step by its parts
pub step-same : (cost cost' : WeightDurLen) (points points' : List Point) (name name' : List ℕ) (maneuver maneuver' : Maneuver) (intersections intersections' : List Intersection)
    → cost ≡ cost' → points ≡ points' → name ≡ name' → maneuver ≡ maneuver' → intersections ≡ intersections'
    → ◌≡◌ {A = Step} (record { cost = cost; points = points; name = name; maneuver = maneuver; intersections = intersections }) (record { cost = cost'; points = points'; name = name'; maneuver = maneuver'; intersections = intersections' })
step-same cost cost' points points' name name' maneuver maneuver' intersections intersections' e f g h i = cc

pub course-same : (n : ℕ) (points points' : List Point) (paid paid' turns turns' : List WeightDurLen) → points ≡ points' → paid ≡ paid' → turns ≡ turns' → IsCourse n points' paid' turns' → IsCourse n points paid turns
course-same n points points' paid paid' turns turns' e f g h = record {
  points_count = ap length e ∙ h.points_count;
  paid_count = ap length f ∙ h.paid_count;
  turns_count = ap (λ (l : List WeightDurLen). length l + 1) g ∙ h.turns_count;
  small = subst (λ (x : WeightDurLen). road_cost_ops.units x (2 ^ 30)) (sym (ap₂ road_cost_ops.plus (ap total_of f) (ap total_of g))) h.small;
}

module _ (road : RoadMetric) (p q : Place) (walk : List ℕ) (some : 0 < length walk) where
  -- what is paid along a permitted walk, and its points
  pub course-along : (d : WeightDurLen) → IsSimple road.network.turns → length (points_along road.network.segments p q walk) ≡ length walk + 1 → IsPermitted road p q walk d → road_cost_ops.units d (2 ^ 30)
      → IsCourse (length walk) (points_along road.network.segments p q walk) (paid_along road.weights p q walk) (turns_paid road walk)
  course-along d simple count permitted small =
      let sum = permitted_adds_up road p q walk d permitted in
      let all : d ≡ road_cost_ops.plus (total_of (paid_along road.weights p q walk)) (total_of (turns_paid road walk)) =
      sum.is_sum ∙ ap (λ (l : List WeightDurLen). road_cost_ops.plus (total_of (paid_along road.weights p q walk)) (total_of l)) (turns_paid-along road simple walk sum.turns sum.are_turns) in
      record {
        points_count = count;
        paid_count = length-paid_along road.weights p q walk;
        turns_count = length-turns_paid road walk some;
        small = subst (λ (x : WeightDurLen). road_cost_ops.units x (2 ^ 30)) all small;
      }

  -- the steps of the pieces, and the arrival
  pub steps-made : (points : List Point) (paid turns : List WeightDurLen) (begins : List Begin) (end : Step) (none more all : List Step)
      → points ≡ points_along road.network.segments p q walk → paid ≡ paid_along road.weights p q walk → turns ≡ turns_paid road walk → begins ≡ begins_along road.network walk
      → end ≡ arrival_at road.network (slice_index walk (length walk - 1)) (point_in points (length walk)) → none ≡ []
      → more ≡ none ++ map (step_between road.network walk points paid turns) (pieces begins (length walk)) → all ≡ more ++ end ∷ [] → all ≡ steps_along road p q walk
  unfolding steps_along
  steps-made points paid turns begins end none more all e0 e1 e2 e3 e4 e5 e6 e7 =
      let steps : (points : List Point) (paid turns : List WeightDurLen) (begins : List Begin) → List Step = λ points paid turns begins.
      map (step_between road.network walk points paid turns) (pieces begins (length walk)) ++ arrival_at road.network (slice_index walk (length walk - 1)) (point_in points (length walk)) ∷ [] in
      e7 ∙ ap₂ (λ l x. l ++ x ∷ []) (e6 ∙ ap (λ l. l ++ map (step_between road.network walk points paid turns) (pieces begins (length walk))) e5) e4
      ∙ ap (λ (l : List Point). steps l paid turns begins) e0 ∙ ap (λ (l : List WeightDurLen). steps (points_along road.network.segments p q walk) l turns begins) e1
      ∙ ap₂ (λ l b. steps (points_along road.network.segments p q walk) (paid_along road.weights p q walk) l b) e2 e3
