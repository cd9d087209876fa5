-- A front without the byte, and a group of bytes without it behind it.
use Rattle.std.proofs.Common.{eqb, refl, arith}
use Rattle.opl_read.proofs.Searches.{none_with_group}
use Rattle.opl_read.proofs.cutting.front_without.Goals as goal

pub loop-from-preserved : goal.loop-from-preserved
loop-from-preserved c = record {
  within = omega arith;
  none = none_with_group (λ b. eqb b c.args.byte) c.args.text.now c.loop-from.from 8 (omega arith) c.loop-from.invariant.none (c.if-all_differ.ensures refl);
}
