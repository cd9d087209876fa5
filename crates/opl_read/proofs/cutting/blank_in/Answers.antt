-- The first blank stands where none stands before.
use Rattle.std.proofs.Common.{sym, arith}
use Rattle.opl_read.specs.Cutting.{is_blank}
use Rattle.opl_read.proofs.Searches.{position_is, position_nowhere}
use Rattle.opl_read.proofs.cutting.blank_in.Goals as goal

pub returns-then-is_blank : goal.returns-then-is_blank
returns-then-is_blank c = position_is is_blank c.args.text.now c.loop-at.at c.loop-at-test.true c.loop-at.invariant (sym c.if-is_blank.ensures)

pub returns : goal.returns
returns c = position_nowhere is_blank c.args.text.now (λ k lt. c.loop-at.invariant k (omega arith))
