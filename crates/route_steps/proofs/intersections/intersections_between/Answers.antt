use Rattle.std.proofs.Common.{◌≡◌, ◌+◌, ◌-◌, ◌++◌, ◌∷◌, [], ℕ, List, ap, ap₂, arith, map, sym, ◌∙◌}
use Rattle.std.specs.List.{range_with_len}
use Rattle.std.proofs.lemmas.List.FromFn.{map-range_with_len_more}
use Rattle.route_steps.specs.Intersections.{intersection_at}
use Rattle.route_steps.specs.declared.intersection_lists.Intersection.{Intersection}
use Rattle.route_steps.proofs.intersections.intersections_between.Goals as goal

pub loop-place-init : goal.loop-place-init
loop-place-init c =
    let at : ℕ → Intersection = intersection_at c.args.network.now c.args.walk.now c.args.points.now in
    let none : 0 ≡ c.args.begin - c.args.begin = omega arith in
    (omega arith, omega (arith, c.requires.ahead), c.in_ok-all.ensures.items ∙ ap (λ (n : ℕ). map at (range_with_len c.args.begin n)) none)

-- one place more
pub loop-place-preserved : goal.loop-place-preserved
loop-place-preserved c =
    let at : ℕ → Intersection = intersection_at c.args.network.now c.args.walk.now c.args.points.now in
    let begin = c.args.begin in
    let place = c.loop-place.place in
    let behind : begin + (place - begin) ≡ place = omega (arith, c.loop-place.invariant.0) in
    let count : place - begin + 1 ≡ place + 1 - begin = omega (arith, c.loop-place.invariant.0) in (
      omega (arith, c.loop-place.invariant.0),
      omega arith,
      c.in_ok-push.ensures.items ∙ ap₂ (λ (l : List Intersection) (x : Intersection). l ++ x ∷ []) c.loop-place.invariant.2 c.in_ok-intersection_at.ensures
          ∙ sym (map-range_with_len_more at begin (place - begin) place behind) ∙ ap (λ (n : ℕ). map at (range_with_len begin n)) count,
    )

-- all of them
pub returns : goal.returns
returns c =
    let at : ℕ → Intersection = intersection_at c.args.network.now c.args.walk.now c.args.points.now in
    let begin = c.args.begin in
    let all : c.loop-place.place ≡ c.args.end = omega (arith, c.loop-place.invariant.1) in
    c.of.ensures ∙ c.loop-place.invariant.2 ∙ ap (λ (n : ℕ). map at (range_with_len begin (n - begin))) all
