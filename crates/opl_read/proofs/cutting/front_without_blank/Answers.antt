-- A front without a blank, and a group of bytes without one behind it.
use Rattle.std.proofs.Common.{refl, arith}
use Rattle.opl_read.specs.Cutting.{is_blank}
use Rattle.opl_read.proofs.Searches.{none_with_group}
use Rattle.opl_read.proofs.cutting.front_without_blank.Goals as goal

pub loop-from-preserved : goal.loop-from-preserved
loop-from-preserved c = record {
  within = omega arith;
  none = none_with_group is_blank c.args.text.now c.loop-from.from 8 (omega arith) c.loop-from.invariant.none (c.if-is_above_blank.ensures refl);
}
