-- The first stands where none stands before.
use Rattle.std.proofs.Common.{eqb, eq-eqb, get_or, arith}
use Rattle.opl_read.proofs.Searches.{position_is, position_nowhere}
use Rattle.opl_read.proofs.cutting.position_of.Goals as goal

pub returns-then-text-at : goal.returns-then-text-at
returns-then-text-at c = position_is (λ b. eqb b c.args.byte) c.args.text.now c.loop-at.at c.loop-at-test.true c.loop-at.invariant (eq-eqb (get_or c.args.text.now c.loop-at.at 0) c.args.byte c.if-text-at.true)

pub returns : goal.returns
returns c = position_nowhere (λ b. eqb b c.args.byte) c.args.text.now (λ k lt. c.loop-at.invariant k (omega arith))
