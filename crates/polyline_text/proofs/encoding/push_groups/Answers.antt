use Rattle.std.proofs.Common.{refl, rules, arith}
use Rattle.polyline_text.proofs.Groups.{group_written, last_group_written}
use Rattle.polyline_text.proofs.encoding.push_groups.Goals as goal

pub loop-rest-init : goal.loop-rest-init
loop-rest-init c = (6, omega arith, refl)

pub loop-rest-preserved : goal.loop-rest-preserved
loop-rest-preserved c =
    group_written c.loop-rest.invariant.0 _ _ _ _ (omega arith) c.loop-rest.invariant.1 (search rules) c.loop-rest.invariant.2

pub returns : goal.returns
returns c = last_group_written c.loop-rest.invariant.0 _ _ _ _ c.loop-rest-test.false (search rules) c.loop-rest.invariant.2
