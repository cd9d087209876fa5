-- Each turn has an exact level more.
use Rattle.std.proofs.Common.{◌≡◌, ℕ, ◌+◌, ◌-◌, ◌∷◌, [], length, length-append, ap, subst, arith}
use Rattle.cell_frame.specs.Cliqued.{AreExact}
use Rattle.cell_customize.specs.Piling.{AreExact-push}
use Rattle.cell_customize.proofs.customizing.customize.Goals as goal

pub level_cliques-requires-clause-cliques : goal.level_cliques-requires-clause-cliques
level_cliques-requires-clause-cliques g c =
    let same : c.loop-below.below ≡ c.loop-below.below + 1 - 1 = omega arith in
    subst (λ (n : ℕ). AreExact g.C.Cost.ops c.args.frame.now c.args.weights.now c.loop-below.cliques n) same c.loop-below.invariant.exact

pub loop-below-init : goal.loop-below-init
loop-below-init g c = record {
  count = ap length c.in_ok-cliques.ensures.rows;
  exact = c.in_ok-cliques.ensures.exact;
}

pub loop-below-preserved : goal.loop-below-preserved
loop-below-preserved g c = record {
  count = rw c.in_ok-push.ensures (omega (arith, length-append c.loop-below.cliques.rows (c.in_ok-level.level ∷ []), c.loop-below.invariant.count));
  exact = rw c.in_ok-push.ensures (AreExact-push g.C.Cost.ops c.args.frame.now c.args.weights.now c.loop-below.cliques c.loop-below.below c.in_ok-level.level c.loop-below.invariant.count c.loop-below.invariant.exact c.in_ok-level.ensures);
}

pub returns : goal.returns
returns g c =
    let all : c.loop-below.below ≡ length c.args.frame.now.cells.levels = omega (arith, c.loop-below-test.false, c.loop-below.auto.below-end, c.levels-below-end.ensures) in
    subst (λ (n : ℕ). AreExact g.C.Cost.ops c.args.frame.now c.args.weights.now c.loop-below.cliques n) all c.loop-below.invariant.exact
