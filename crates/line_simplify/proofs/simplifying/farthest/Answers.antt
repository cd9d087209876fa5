use Rattle.std.proofs.Common.{◌≡◌, ◌∙◌, ◌+◌, List, subst, arith}
use Rattle.std.proofs.lemmas.List.{take_all}
use Rattle.road_base.specs.declared.coordinates.Point.{Point}
use Rattle.line_simplify.specs.Simplified.{offset_of}
use Rattle.line_simplify.proofs.Farthest.{IsFarthestSoFar, all-below, farthest-all, farthest-inside, keeps-many, keeps-next, keeps-rest, takes-next}
use Rattle.line_simplify.proofs.simplifying.farthest.Goals as goal
use Rattle.line_simplify.proofs.simplifying.farthest.Goals.{then-offset-most, else-offset-most}

-- points were passed over
pub loop-at-preserved-then-passed-gt0 : goal.loop-at-preserved-then-passed-gt0
loop-at-preserved-then-passed-gt0 c =
    keeps-many c.args.reach.limit c.args.line.from c.args.line.to c.args.between.now c.loop-at.at c.passed_by-passed.result c.loop-at.most c.loop-at.farthest c.loop-at.invariant
    (λ i q low high at. c.passed_by-passed.ensures.passed (c.args.first + i) q (omega (arith, low)) (omega (arith, high)) (c.requires.covered i q at))

-- one point more was looked at
pub loop-at-preserved : goal.loop-at-preserved
loop-at-preserved c =
    let q = c.index-between-at.result in
    let off : c.offset-offset.result ≡ offset_of c.args.line.from c.args.line.to q = c.offset-offset.ensures in
    elim c.if-offset-most.branch [
      | then-offset-most w ↦
          takes-next c.args.reach.limit c.args.line.from c.args.line.to c.args.between.now c.loop-at.at c.loop-at.most c.if-offset-most.most c.loop-at.farthest c.if-offset-most.farthest q c.loop-at-test.true c.index-between-at.is c.loop-at.invariant
          (let lt = w.if-offset-most.true in omega (arith, lt, off)) (w.most-is ∙ off) w.farthest-is
      | else-offset-most w ↦
          keeps-next c.args.reach.limit c.args.line.from c.args.line.to c.args.between.now c.loop-at.at c.loop-at.most c.if-offset-most.most c.loop-at.farthest c.if-offset-most.farthest q c.loop-at-test.true c.index-between-at.is c.loop-at.invariant
          (let le = w.if-offset-most.false in omega (arith, le, off)) w.most-is w.farthest-is
    ]

-- no point can be farther off
pub returns-then-most-reach-clause-value : goal.returns-then-most-reach-clause-value
returns-then-most-reach-clause-value c =
    farthest-all c.args.reach.limit c.args.line.from c.args.line.to c.args.between.now c.loop-at.most c.loop-at.farthest
    (keeps-rest c.args.reach.limit c.args.line.from c.args.line.to c.args.between.now c.loop-at.at c.loop-at.most c.loop-at.farthest c.loop-at.invariant
    (λ i q at. let near = c.requires.reach i q at in let le = c.if-most-reach.true in omega (arith, near, le)))

pub returns-then-most-reach-clause-within : goal.returns-then-most-reach-clause-within
returns-then-most-reach-clause-within c =
    farthest-inside c.args.reach.limit c.args.line.from c.args.line.to c.args.between.now c.loop-at.most c.loop-at.farthest
    (keeps-rest c.args.reach.limit c.args.line.from c.args.line.to c.args.between.now c.loop-at.at c.loop-at.most c.loop-at.farthest c.loop-at.invariant
    (λ i q at. let near = c.requires.reach i q at in let le = c.if-most-reach.true in omega (arith, near, le)))

pub returns-then-most-reach-clause-most : goal.returns-then-most-reach-clause-most
returns-then-most-reach-clause-most c =
    (all-below c.args.reach.limit c.args.line.from c.args.line.to c.args.between.now c.loop-at.most c.loop-at.farthest
    (keeps-rest c.args.reach.limit c.args.line.from c.args.line.to c.args.between.now c.loop-at.at c.loop-at.most c.loop-at.farthest c.loop-at.invariant
    (λ i q at. let near = c.requires.reach i q at in let le = c.if-most-reach.true in omega (arith, near, le)))).1

-- all were
pub returns-clause-value : goal.returns-clause-value
returns-clause-value c =
    farthest-all c.args.reach.limit c.args.line.from c.args.line.to c.args.between.now c.loop-at.most c.loop-at.farthest
    (subst (λ (xs : List Point). IsFarthestSoFar c.args.reach.limit c.args.line.from c.args.line.to xs c.loop-at.most c.loop-at.farthest) (take_all c.loop-at.at c.args.between.now c.loop-at-test.false) c.loop-at.invariant)

pub returns-clause-within : goal.returns-clause-within
returns-clause-within c =
    farthest-inside c.args.reach.limit c.args.line.from c.args.line.to c.args.between.now c.loop-at.most c.loop-at.farthest
    (subst (λ (xs : List Point). IsFarthestSoFar c.args.reach.limit c.args.line.from c.args.line.to xs c.loop-at.most c.loop-at.farthest) (take_all c.loop-at.at c.args.between.now c.loop-at-test.false) c.loop-at.invariant)

pub returns-clause-most : goal.returns-clause-most
returns-clause-most c =
    (all-below c.args.reach.limit c.args.line.from c.args.line.to c.args.between.now c.loop-at.most c.loop-at.farthest
    (subst (λ (xs : List Point). IsFarthestSoFar c.args.reach.limit c.args.line.from c.args.line.to xs c.loop-at.most c.loop-at.farthest) (take_all c.loop-at.at c.args.between.now c.loop-at-test.false) c.loop-at.invariant)).1
