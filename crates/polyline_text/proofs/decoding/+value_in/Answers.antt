use Rattle.std.proofs.Common.{rules, arith, ◌-◌}
use Rattle.polyline_text.proofs.Groups.{below_seven_groups, behind_group-lt, one_group-lt}
use Rattle.polyline_text.proofs.decoding.+value_in.Goals as goal

pub overflow_mul-result : goal.overflow_mul-result
overflow_mul-result t c =
    let small = below_seven_groups (c.args.groups - 1) c.in-Ok.n (omega arith) c.in-Ok.ensures.small in omega (arith, small)

pub overflow_add-result : goal.overflow_add-result
overflow_add-result t c =
    let small = below_seven_groups (c.args.groups - 1) c.in-Ok.n (omega arith) c.in-Ok.ensures.small in omega (arith, small)

pub returns-in-63-to-94-clause-small : goal.returns-in-63-to-94-clause-small
returns-in-63-to-94-clause-small t c = one_group-lt _ _ (search rules) (omega arith)

pub returns-in-Ok-clause-small : goal.returns-in-Ok-clause-small
returns-in-Ok-clause-small t c = behind_group-lt _ _ _ (search rules) (omega arith) c.in-Ok.ensures.small
