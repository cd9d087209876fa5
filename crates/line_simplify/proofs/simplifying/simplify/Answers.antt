use Rattle.std.proofs.Common.{◌≡◌, ◌∙◌, ℕ, ◌-◌, ◌≤◌, List, [], ◌∷◌, length, All, sym, subst, arith}
use Rattle.std.specs.Prelude.{MatchOption, Some}
use Rattle.std.specs.List.{slice_get}
use Rattle.std.proofs.lemmas.List.{get_or_read, nil_from_length}
use Rattle.std.proofs.lemmas.Result.{IfOk-weaker}
use Rattle.std.proofs.lemmas.Option.{get_or_from_slice_get}
use Rattle.list_lemmas.proofs.Gets.{get_some}
use Rattle.road_base.specs.declared.coordinates.Point.{Point}
use Rattle.line_simplify.specs.Steps.{IsFarthestAt}
use Rattle.line_simplify.specs.Simplified.{IsSimplified, few, limit_of, offset_of, simplified}
use Rattle.line_simplify.proofs.Ends.{next-end, part, stands-all, stands-first, stands-next, step-later, step-smaller}
use Rattle.line_simplify.specs.Searches.{Knows}
use Rattle.line_simplify.specs.Splits.{IsSplit}
use Rattle.line_simplify.proofs.Repeats.{knows-later}
use Rattle.line_simplify.proofs.Runs.{read-is}
use Rattle.line_simplify.proofs.Lines.{simplified-few, simplified-is, simplified-rule}
use Rattle.line_simplify.proofs.simplifying.simplify.Goals as goal

-- fewer than three points
pub returns-then-points-lt3-clause-value : goal.returns-then-points-lt3-clause-value
returns-then-points-lt3-clause-value c =
    IfOk-weaker c.from_slice.result (λ v. v.items ≡ c.args.points.now) (λ v. v.items ≡ simplified c.args.tolerance c.args.points.now) (λ v e. e ∙ simplified-few c.args.tolerance c.args.points.now c.if-points-lt3.true) c.from_slice.ensures.items

pub returns-then-points-lt3-clause-rule : goal.returns-then-points-lt3-clause-rule
returns-then-points-lt3-clause-rule c =
    IfOk-weaker c.from_slice.result (λ v. v.items ≡ c.args.points.now) (λ v. IsSimplified c.args.tolerance c.args.points.now v.items)
    (λ v e. subst (λ (xs : List Point). IsSimplified c.args.tolerance c.args.points.now xs) (sym e) (few c.args.points.now c.if-points-lt3.true)) c.from_slice.ensures.items

-- at first
pub loop-to-init : goal.loop-to-init
loop-to-init c =
    let points = c.args.points.now in
    let x = c.index-points-0.result in
    let le : 3 ≤ length points = c.if-points-lt3.false in
    let e : c.in_ok-kept.kept.items ≡ x ∷ [] = c.in_ok-kept.ensures.items in
    let i : c.in_ok-ends.ends.items ≡ (length points - 1) ∷ [] = c.in_ok-ends.ensures.items in
    record {
      stands = stands-first c.args.tolerance points c.in_ok-kept.kept.items c.in_ok-ends.ends.items x le (get_or_read points 0 x (omega (arith, le)) c.index-points-0.is) e i;
      knows = c.in_ok-search.ensures;
    }

-- one step more
pub loop-to-smaller : goal.loop-to-smaller
loop-to-smaller c =
    step-smaller c.args.tolerance c.args.points.now c.loop-to.kept.items c.loop-to.from c.loop-to.ends.items c.pop.new.self.items c.in-Some.to c.loop-to.invariant.stands c.in-Some.ensures.items
    c.index-points-to.result c.split-split.result c.step.new.kept.items c.in_ok-from.from c.step.new.ends.items c.in_ok-from.ensures

pub loop-to-preserved : goal.loop-to-preserved
loop-to-preserved c =
    let points = c.args.points.now in
    let from = c.loop-to.from in
    let to = c.in-Some.to in
    let y = c.index-points-to.result in
    let split = c.split-split.result in
    let limit = limit_of c.args.tolerance in
    let e = c.in-Some.ensures.items in
    let stands = c.loop-to.invariant.stands in
    let next = next-end c.args.tolerance points c.loop-to.kept.items from c.loop-to.ends.items c.pop.new.self.items to stands e in
    let at_from = get_some points from stands.inside in
    let x = at_from.0 in
    let at_to : slice_get points to ≡ Some y = read-is points to y y next.1 (sym c.index-points-to.is) in
    let limited = c.loop-to.invariant.knows.limited in
    let parted : IsSplit limit points from to split = subst (λ (n : ℕ). IsSplit n points from to split) limited c.split-split.ensures.split in
    let found : MatchOption split (All (λ q. offset_of x y q ≤ limit) (part points from to)) (IsFarthestAt limit x y (part points from to)) = parted.farthest x y at_from.1 at_to in
    let later : from ≤ c.in_ok-from.from = step-later c.args.tolerance points c.loop-to.kept.items from c.loop-to.ends.items c.pop.new.self.items to stands e y split c.step.new.kept.items c.in_ok-from.from c.step.new.ends.items c.in_ok-from.ensures in
    let knows : Knows limit points from c.split-split.new.self = subst (λ (n : ℕ). Knows n points from c.split-split.new.self) limited c.split-split.ensures.knows in
    record {
      stands = stands-next c.args.tolerance points c.loop-to.kept.items from c.loop-to.ends.items c.pop.new.self.items to stands e x y split c.step.new.kept.items c.in_ok-from.from c.step.new.ends.items
          (λ d. sym (get_or_from_slice_get points from x d at_from.1)) (get_or_read points to y next.1 c.index-points-to.is) found c.in_ok-from.ensures;
      knows = knows-later limit points from c.in_ok-from.from c.split-split.new.self later knows;
    }

-- no end is left
pub returns-clause-value : goal.returns-clause-value
returns-clause-value c =
    let none : length c.loop-to.ends.items ≡ 0 = sym c.loop-to.ends.ok.0 ∙ c.in_default.ensures.cases.0 in
    stands-all c.args.tolerance c.args.points.now c.loop-to.kept.items c.loop-to.from c.loop-to.ends.items c.index-points-0.result c.loop-to.invariant.stands (nil_from_length c.loop-to.ends.items none)

pub returns-clause-rule : goal.returns-clause-rule
returns-clause-rule c =
    subst (λ (xs : List Point). IsSimplified c.args.tolerance c.args.points.now xs) (sym (returns-clause-value c)) (simplified-rule c.args.tolerance c.args.points.now)

pub returns-clause-only : goal.returns-clause-only
returns-clause-only c = λ other h. simplified-is c.args.tolerance c.args.points.now other h ∙ sym (returns-clause-value c)
