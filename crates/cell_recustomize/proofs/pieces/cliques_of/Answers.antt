-- Each turn has the clique of one cell more.
use Rattle.std.proofs.Common.{◌≡◌, ℕ, subst, arith}
use Rattle.cell_customize.specs.Levels.{AreMade}
use Rattle.cell_customize.specs.Piling.{AreMade-push}
use Rattle.cell_recustomize.proofs.pieces.cliques_of.Goals as goal

pub loop-number-preserved : goal.loop-number-preserved
loop-number-preserved g c =
    let made = c.in_ok-clique_of.ensures in
    rw (c.in_ok-push.ensures.items, made.1, c.len.ensures) (AreMade-push g.C.Cost.ops c.args.frame.now c.args.weights.now c.args.level c.args.from c.loop-number.number c.loop-number.first.items c.loop-number.values made.0 made.2 c.loop-number.invariant)

pub returns : goal.returns
returns g c =
    let all : c.loop-number.number ≡ c.args.to = omega (arith, c.loop-number-test.false, c.loop-number.auto.number-end) in
    rw c.of.ensures (subst (λ (n : ℕ). AreMade g.C.Cost.ops c.args.frame.now c.args.weights.now c.args.level c.args.from n (record { first = c.loop-number.first.items; values = c.loop-number.values })) all c.loop-number.invariant)
