-- The marks of a level prepare it; each turn has an exact level more, and the entries of its touched cells.
use Rattle.std.proofs.Common.{◌≡◌, ℕ, ◌+◌, ◌≤◌, ◌∷◌, [], length, length-append, ap, sym, subst, List, Bool, arith}
use Rattle.cell_frame.specs.Cliqued.{AreExact}
use Rattle.cell_customize.specs.Piling.{AreExact-push}
use Rattle.cell_recustomize.specs.Making.{AreMarked}
use Rattle.cell_recustomize.proofs.Counted.{touched_none, touched_more, touched_all}
use Rattle.cell_recustomize.proofs.Kept.{IsPrepared-marked}
use Rattle.cell_recustomize.proofs.recustomizing.recustomize.Goals as goal

pub loop-below-init : goal.loop-below-init
loop-below-init g c = record {
  count = ap length c.in_ok-cliques.ensures.rows;
  exact = c.in_ok-cliques.ensures.exact;
  touched = touched_none c.args.frame.now c.args.vertices.now c.args.arcs.now;
  few = omega arith;
}

pub level_cliques-requires : goal.level_cliques-requires
level_cliques-requires g c =
    let within : c.loop-below.below + 1 ≤ length c.args.frame.now.cells.levels = omega (arith, c.loop-below-test.true, c.levels-below-end.ensures) in
    let marked : AreMarked c.args.frame.now c.args.vertices.now c.args.arcs.now (c.loop-below.below + 1) c.as_slice-marks.result.now = subst (λ (m : List Bool). AreMarked c.args.frame.now c.args.vertices.now c.args.arcs.now (c.loop-below.below + 1) m) (sym c.as_slice-marks.ensures.value) c.in_ok-marked.ensures in
    IsPrepared-marked g.C.Cost.ops c.args.frame.now c.args.weights.now c.args.old.now c.args.vertices.now c.args.arcs.now c.requires.old c.requires.weights c.loop-below.cliques c.loop-below.below c.as_slice-marks.result.now within c.loop-below.invariant.exact marked

pub loop-below-preserved : goal.loop-below-preserved
loop-below-preserved g c =
    let within : c.loop-below.below + 1 ≤ length c.args.frame.now.cells.levels = omega (arith, c.loop-below-test.true, c.levels-below-end.ensures) in
    let marked : AreMarked c.args.frame.now c.args.vertices.now c.args.arcs.now (c.loop-below.below + 1) c.as_slice-marks.result.now = subst (λ (m : List Bool). AreMarked c.args.frame.now c.args.vertices.now c.args.arcs.now (c.loop-below.below + 1) m) (sym c.as_slice-marks.ensures.value) c.in_ok-marked.ensures in
    rw c.in_ok-push.ensures record {
      count = omega (arith, length-append c.loop-below.cliques.rows (c.in_ok-rows.rows ∷ []), c.loop-below.invariant.count);
      exact = AreExact-push g.C.Cost.ops c.args.frame.now c.args.weights.now c.loop-below.cliques c.loop-below.below c.in_ok-rows.rows c.loop-below.invariant.count c.loop-below.invariant.exact c.in_ok-rows.ensures;
      touched = touched_more c.args.frame.now c.args.vertices.now c.args.arcs.now c.loop-below.below c.as_slice-marks.result.now c.loop-below.searches c.entries_of-searches.result within marked c.loop-below.invariant.touched c.entries_of-searches.ensures.count;
      few = omega (arith, c.loop-below.invariant.few, c.entries_of-searches.ensures.few);
    }

pub returns-clause-cliques : goal.returns-clause-cliques
returns-clause-cliques g c =
    let all : c.loop-below.below ≡ length c.args.frame.now.cells.levels = omega (arith, c.loop-below-test.false, c.loop-below.auto.below-end, c.levels-below-end.ensures) in
    subst (λ (n : ℕ). AreExact g.C.Cost.ops c.args.frame.now c.args.weights.now c.loop-below.cliques n) all c.loop-below.invariant.exact

pub returns-clause-searches : goal.returns-clause-searches
returns-clause-searches g c =
    let all : c.loop-below.below ≡ length c.args.frame.now.cells.levels = omega (arith, c.loop-below-test.false, c.loop-below.auto.below-end, c.levels-below-end.ensures) in
    touched_all c.args.frame.now c.args.vertices.now c.args.arcs.now c.loop-below.below c.loop-below.searches all c.loop-below.invariant.touched
